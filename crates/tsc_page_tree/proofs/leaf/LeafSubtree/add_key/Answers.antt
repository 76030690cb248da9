-- An Add at a key to the nodes leaves a leaf, and is heeded.
use Rattle.std.proofs.Common.{◌≡◌, ◌∙◌, ◌-◌, ◌∷◌, [], inl, inr, rules, sym, ap, subst, true, List, length, arith}
use Rattle.std.specs.Prelude.{Option}
use Rattle.std.specs.Arc.{arc_value}
use Rattle.tsc_time.specs.ValueView.{ValueView}
use Rattle.tsc_page_nodes.specs.Nodes.{Node}
use Rattle.tsc_page_nodes.specs.KeyAdds.{KeyInsertionView, IsKeyReported}
use Rattle.tsc_page_tree.specs.Leaves.{IsLeaf}
use Rattle.tsc_page_tree.specs.Lazy.{with_lazy, joint_after}
use Rattle.tsc_page_tree.specs.KeyAdds.{IsKeyAddReported}
use Rattle.tsc_page_tree.specs.Trees.{IsLeafOf}
use Rattle.tsc_page_tree.proofs.Lazy.{sorted_without}
use Rattle.tsc_page_tree.proofs.Wholes.{leaf_whole, reported_as}
use Rattle.tsc_page_tree.proofs.KeyAdds.{reported_leaf, reported_lazy, reported_key, few_in_leaf}
use Rattle.tsc_page_tree.proofs.leaf.LeafSubtree.add_key.Goals as goal

pub returns-clause-reported : goal.returns-clause-reported
returns-clause-reported c =
    let ns : List Node = arc_value c.args.self.now.nodes in
    let p = c.args.self.now.aggregate.lazy in
    let a : KeyInsertionView = c.args.add.now in
    let r = c.add_key-made.result in
    let new : List Node = c.add_key-made.new.self in
    let same : c.in_ok-nodes.nodes.now ≡ ns =
    elim c.in_ok-nodes.ensures.value [ inl h ↦ h | inr h ↦ h ] in
    let here = subst (λ (ms : List Node). IsKeyReported ms new a
    (record { nodes = 64 - c.len.result; bytes = c.args.room }) r) same
    c.add_key-made.ensures.reported in
    let below = reported_lazy p ns new _ _ a c.args.room r (sorted_without p ns
    c.requires.subtree.sorted)
    (reported_leaf r ns new a _ here) in
    let held : arc_value (c.make_mut.follows.lender new) ≡ new =
    c.make_mut.follows.holds new (search rules) in
    subst (λ (ms : List Node). IsKeyAddReported (with_lazy p ns)
    (with_lazy c.update.new.self.lazy ms) (length ns ∷ []) (length ms ∷ []) a c.args.room r)
    (sym held)
    (subst (λ (o : Option ValueView). IsKeyAddReported (with_lazy p ns) (with_lazy o new)
    (length ns ∷ []) (length new ∷ []) a c.args.room r) (sym c.update.ensures.lazy) below)

pub returns-clause-whole : goal.returns-clause-whole
returns-clause-whole c =
    let ns : List Node = arc_value c.args.self.now.nodes in
    let s = c.args.self.now.aggregate in
    let a : KeyInsertionView = c.args.add.now in
    let r = c.add_key-made.result in
    let new : List Node = c.add_key-made.new.self in
    let same : c.in_ok-nodes.nodes.now ≡ ns =
    elim c.in_ok-nodes.ensures.value [ inl h ↦ h | inr h ↦ h ] in
    let here = subst (λ (ms : List Node). IsKeyReported ms new a
    (record { nodes = 64 - c.len.result; bytes = c.args.room }) r) same
    c.add_key-made.ensures.reported in
    let leaf = c.requires.subtree.whole.leaf in
    let few : IsLeaf new = few_in_leaf r ns new a
    (record { nodes = 64 - c.len.result; bytes = c.args.room }) leaf.0 leaf.1
    (omega (arith, c.len.ensures, ap length same, leaf.1)) here in
    let reported = reported_key r s.start s.joint s.lazy ns new _ _ a c.args.room
    c.requires.subtree.sorted
    (reported_leaf r ns new a _ here) c.requires.subtree.whole.reported in
    subst (λ (ms : List Node). IsLeafOf c.update.new.self ms)
    (sym (c.make_mut.follows.holds new (search rules)))
    (leaf_whole c.update.new.self new few
    (reported_as s.start c.update.new.self.start _ c.update.new.self.joint s.lazy
    c.update.new.self.lazy new c.update.ensures.start
    (c.update.ensures.joint ∙ ap (λ (x : KeyInsertionView). joint_after r true x.value s.joint)
    c.add.view_is)
    c.update.ensures.lazy reported))
