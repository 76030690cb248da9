-- The lazy value goes down before the node is made, and the joint value stays unless the leaf was
-- cut.
use Rattle.std.proofs.Common.{◌≡◌, ◌∙◌, inl, inr, sym, ap, subst, List}
use Rattle.std.specs.Option.{IfSome}
use Rattle.std.specs.Arc.{arc_value}
use Rattle.tsc_page_nodes.specs.Nodes.{Node}
use Rattle.tsc_page_tree.specs.Leaves.{IsLeaf}
use Rattle.tsc_page_tree.specs.Lazy.{with_lazy}
use Rattle.tsc_page_tree.specs.Trees.{nodes_in}
use Rattle.tsc_page_tree.proofs.Reported.{reported_made, no_nodes}
use Rattle.tsc_page_tree.proofs.leaf.LeafSubtree.make_node.Goals as goal

pub new-requires : goal.new-requires
new-requires c = record {
  leaf = subst (λ o. IfSome o (λ u. IsLeaf u)) c.in-Some.is c.in_ok-upper.ensures.upper;
}

pub aggregate_with-self-requires-clause-kept : goal.aggregate_with-self-requires-clause-kept
aggregate_with-self-requires-clause-kept c = λ h.
    let ns : List Node = arc_value c.args.self.now.nodes in
    let s = c.args.self.now.aggregate in
    let same : c.in_ok-nodes.nodes.now ≡ ns =
    elim c.in_ok-nodes.ensures.value [ inl h ↦ h | inr h ↦ h ] in
    let pushed : c.push_down.new.nodes ≡ with_lazy s.lazy ns = c.push_down.ensures ∙
    ap (with_lazy s.lazy) same in
    reported_made s.start s.joint s.lazy ns c.push_down.new.nodes c.grow.new.nodes
    (nodes_in c.in_ok-upper.upper) c.args.key.now c.requires.subtree.sorted
    c.requires.subtree.whole.reported pushed
    c.in_ok-upper.ensures.made (no_nodes c.in_ok-upper.upper (sym c.is_some.ensures ∙ h))
