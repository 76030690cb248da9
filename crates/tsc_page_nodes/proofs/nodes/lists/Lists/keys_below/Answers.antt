-- Where the key before a place is below, all before the place are.
use Rattle.std.proofs.Common.{◌≡◌, ◌∙◌, ◌+◌, ◌<◌, ℕ, sym, ap, subst, List, length, arith}
use Rattle.tsc_span.specs.Span.{KeyBytes, key_cmp}
use Rattle.tsc_page_nodes.specs.Nodes.{Node, HasKeysBelow, IsSorted}
use Rattle.tsc_page_nodes.proofs.Indices.{some_node, is_less}
use Rattle.tsc_page_nodes.proofs.Searches.{smaller_here}
use Rattle.tsc_page_nodes.proofs.Apart.{key_at, long_as}
use Rattle.tsc_page_nodes.proofs.nodes.lists.Lists.keys_below.Goals as goal

pub returns-in-Some-get : goal.returns-in-Some-get
returns-in-Some-get c =
    let nodes : List Node = c.args.self.now in
    let k : KeyBytes = c.args.key.now in
    let before : ℕ = c.in-Some.before in
    let lookup = c.in-Some-get.ensures.lookup in
    let inside : before < length c.self.inside.keys.now = lookup.3.0 in
    let is = key_at c.self.inside.keys.now c.self.inside.values.now nodes c.self.invariant.same
    c.self.view_is before some_node c.in-Some-get.other.now inside ∙ sym lookup.1 in
    let long = long_as c.self.inside.keys.now c.self.inside.values.now nodes c.self.invariant.same
    c.self.view_is in
    let next : before + 1 ≡ c.args.index = omega (arith, c.in-Some.ensures) in
    λ reported. subst (HasKeysBelow nodes k) next
    (smaller_here nodes (subst IsSorted c.self.view_is c.self.invariant.sorted) k before some_node
    (omega (arith, long, inside))
    (ap (λ (m : KeyBytes). key_cmp m k) is ∙ sym c.compare.ensures ∙
    is_less c.compare.result (sym c.is_lt.ensures ∙ reported)))
