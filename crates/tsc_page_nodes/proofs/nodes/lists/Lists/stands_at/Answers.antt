-- A key that compares as the same is the same, and the same key compares so.
use Rattle.std.proofs.Common.{◌∙◌, ◌<◌, ℕ, sym, ap, List, length, arith}
use mathlib.Core.Bool.{true≢false}
use Rattle.std.specs.Ordering.{is_eq}
use Rattle.tsc_span.specs.Span.{KeyBytes, key_cmp}
use Rattle.tsc_page_nodes.specs.Nodes.{Node}
use Rattle.tsc_page_nodes.proofs.Indices.{some_node}
use Rattle.tsc_page_nodes.proofs.Searches.{stands_here, is_equal, compares_same}
use Rattle.tsc_page_nodes.proofs.Apart.{key_at, long_as}
use Rattle.tsc_page_nodes.proofs.nodes.lists.Lists.stands_at.Goals as goal

pub returns-in-Some : goal.returns-in-Some
returns-in-Some c =
    let nodes : List Node = c.args.self.now in
    let k : KeyBytes = c.args.key.now in
    let index : ℕ = c.args.index in
    let lookup = c.in-Some.ensures.lookup in
    let inside : index < length c.self.inside.keys.now = lookup.3.0 in
    let is = key_at c.self.inside.keys.now c.self.inside.values.now nodes c.self.invariant.same
    c.self.view_is index some_node c.in-Some.other.now inside ∙ sym lookup.1 in
    let long = long_as c.self.inside.keys.now c.self.inside.values.now nodes c.self.invariant.same
    c.self.view_is in (
      λ reported. stands_here nodes k index some_node (omega (arith, long, inside))
          (ap (λ (m : KeyBytes). key_cmp m k) is ∙ sym c.compare.ensures ∙
          is_equal c.compare.result (sym c.is_eq.ensures ∙ reported)),
      λ stands. c.is_eq.ensures ∙ ap is_eq c.compare.ensures ∙
          compares_same c.in-Some.other.now k (sym is ∙ stands.key some_node),
    )

pub returns-in-None : goal.returns-in-None
returns-in-None c =
    let long = long_as c.self.inside.keys.now c.self.inside.values.now c.args.self.now
    c.self.invariant.same c.self.view_is in (
      λ reported. absurd (true≢false (sym reported)),
      λ stands. absurd (omega (arith, long, stands.bound, c.in-None.ensures.lookup)),
    )
