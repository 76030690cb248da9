-- Of the keys looked at, one that isn't greater has all before it below.
use Rattle.std.proofs.Common.{◌∙◌, ◌<◌, ℕ, sym, ap, subst, List, length, arith}
use Rattle.std.specs.Ordering.{is_le}
use Rattle.tsc_span.specs.Span.{KeyBytes, key_cmp}
use Rattle.tsc_page_nodes.specs.Nodes.{Node, HasKeysBelow, IsSorted}
use Rattle.tsc_page_nodes.proofs.Indices.{some_node}
use Rattle.tsc_page_nodes.proofs.Searches.{not_greater_here}
use Rattle.tsc_page_nodes.proofs.Apart.{key_at, long_as}
use Rattle.tsc_page_nodes.proofs.nodes.lists.Lists.stride_before.Goals as goal
use Rattle.tsc_page_nodes.proofs.nodes.lists.Lists.stride_before.Goals.{then-is_le, else-is_le}

pub loop-index-preserved : goal.loop-index-preserved
loop-index-preserved c =
    let nodes : List Node = c.args.self.now in
    let k : KeyBytes = c.args.key.now in
    let index : ℕ = c.loop-index.index in
    let inside : index < length c.self.inside.keys.now = c.loop-index-test.true in
    let long = long_as c.self.inside.keys.now c.self.inside.values.now nodes c.self.invariant.same
    c.self.view_is in
    let is = key_at c.self.inside.keys.now c.self.inside.values.now nodes c.self.invariant.same
    c.self.view_is index some_node c.index-self-index.result inside in
    elim c.if-is_le.branch [
      | then-is_le w ↦
          let reports = ap (λ (m : KeyBytes). is_le (key_cmp m k)) is ∙
          ap is_le (sym c.compare.ensures) ∙ sym c.is_le.ensures ∙ w.if-is_le.true in
          subst (HasKeysBelow nodes k) (sym w.low-is)
          (not_greater_here nodes (subst IsSorted c.self.view_is c.self.invariant.sorted) k index some_node
          (omega (arith, long, inside)) reports)
      | else-is_le w ↦ subst (HasKeysBelow nodes k) (sym w.low-is) c.loop-index.invariant
    ]
