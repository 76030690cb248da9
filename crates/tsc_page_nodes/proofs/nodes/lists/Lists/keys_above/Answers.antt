-- Where the key at a place is above, all from there on are.
use Rattle.std.proofs.Common.{◌∙◌, ◌<◌, ℕ, sym, ap, subst, List, length, arith}
use Rattle.tsc_span.specs.Span.{KeyBytes, key_cmp}
use Rattle.tsc_page_nodes.specs.Nodes.{Node, IsSorted}
use Rattle.tsc_page_nodes.proofs.Indices.{some_node}
use Rattle.tsc_page_nodes.proofs.Searches.{greater_here, is_greater}
use Rattle.tsc_page_nodes.proofs.Apart.{key_at, long_as}
use Rattle.tsc_page_nodes.proofs.nodes.lists.Lists.keys_above.Goals as goal

pub returns-in-Some : goal.returns-in-Some
returns-in-Some c =
    let nodes : List Node = c.args.self.now in
    let k : KeyBytes = c.args.key.now in
    let index : ℕ = c.args.index in
    let lookup = c.in-Some.ensures.lookup in
    let inside : index < length c.self.inside.keys.now = lookup.3.0 in
    let is = key_at c.self.inside.keys.now c.self.inside.values.now nodes c.self.invariant.same
    c.self.view_is index some_node c.in-Some.other.now inside ∙ sym lookup.1 in
    let long = long_as c.self.inside.keys.now c.self.inside.values.now nodes c.self.invariant.same
    c.self.view_is in
    λ reported low. greater_here nodes (subst IsSorted c.self.view_is c.self.invariant.sorted) k
    index some_node low (omega (arith, long, inside))
    (ap (λ (m : KeyBytes). key_cmp m k) is ∙ sym c.compare.ensures ∙
    is_greater c.compare.result (sym c.is_gt.ensures ∙ reported))

pub returns-in-None : goal.returns-in-None
returns-in-None c =
    let long = long_as c.self.inside.keys.now c.self.inside.values.now c.args.self.now
    c.self.invariant.same c.self.view_is in
    λ reported low. record {
      low = low;
      high = λ i d at inside. absurd (omega (arith, long, at, inside, c.in-None.ensures.lookup));
    }
