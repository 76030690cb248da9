-- An Add to the nodes leaves a leaf, and is heeded.
use Rattle.std.proofs.Common.{◌≡◌, ◌∙◌, ◌-◌, ◌∷◌, [], inl, inr, rules, sym, ap, subst, Bool, List, length, arith}
use Rattle.std.specs.Prelude.{None}
use Rattle.std.specs.Arc.{arc_value}
use Rattle.tsc_span.specs.Span.{is_below}
use Rattle.tsc_page_nodes.specs.Nodes.{Node, IsInOrder}
use Rattle.tsc_page_nodes.specs.Insertions.{InsertionView}
use Rattle.tsc_page_nodes.specs.Insertions as insertions
use Rattle.tsc_page_nodes.specs.declared.nodes.Growth.{Growth}
use Rattle.tsc_page_tree.specs.Leaves.{IsLeaf, start_of}
use Rattle.tsc_page_tree.specs.Lazy.{with_lazy, IsAddReported, joint_after}
use Rattle.tsc_page_tree.specs.Trees.{IsLeafOf}
use Rattle.tsc_span.proofs.CutOrder.{Lt}
use Rattle.tsc_page_tree.proofs.Lazy.{lazy-length}
use Rattle.tsc_page_tree.proofs.Reported.{reported_pushed, reported_added}
use Rattle.tsc_page_tree.proofs.Wholes.{leaf_whole, reported_as, add_reported, leaf_added}
use Rattle.tsc_page_tree.proofs.leaf.LeafSubtree.add_within.Goals as goal

pub returns-clause-whole : goal.returns-clause-whole
returns-clause-whole c =
    let ns : List Node = arc_value c.args.self.now.nodes in
    let s = c.args.self.now.aggregate in
    let p = s.lazy in
    let a : InsertionView = c.args.add.now in
    let same : c.in_ok-nodes.nodes.now ≡ ns =
    elim c.in_ok-nodes.ensures.value [ inl h ↦ h | inr h ↦ h ] in
    let pushed : c.push_down.new.nodes ≡ with_lazy p ns = c.push_down.ensures ∙
    ap (with_lazy p) same in
    let old : List Node = with_lazy p ns in
    let new : List Node = c.insert_in_place-made.new.self in
    let leaf : IsLeaf old = (
      omega (arith, lazy-length p ns, c.requires.subtree.whole.leaf.0),
      omega (arith, lazy-length p ns, c.requires.subtree.whole.leaf.1),
    ) in
    let room : Growth = record { nodes = 64 - c.len.result; bytes = c.args.room } in
    let made : insertions.IsReported old new a room c.insert_in_place-made.result =
    subst (λ (ms : List Node). insertions.IsReported ms new a room c.insert_in_place-made.result)
    pushed
    c.insert_in_place-made.ensures.reported in
    let reported : IsAddReported old new (length old ∷ []) (length new ∷ []) a c.args.room
    c.insert_in_place-made.result = add_reported c.insert_in_place-made.result old new a room made
    in
    let order : IsInOrder a.first a.second =
    subst (λ (b : InsertionView). IsInOrder b.first b.second) c.add.view_is c.add.invariant.3 in
    let up : Lt a.from a.to = subst (λ (b : InsertionView). Lt b.from b.to) c.add.view_is
    c.add.invariant.0 in
    let reached : c.starts_below-reached.result ≡ is_below (start_of new) a.to =
    c.starts_below-reached.ensures ∙
    ap (λ (b : InsertionView). is_below (start_of new) b.to) c.add.view_is in
    let value : c.add.inside.value ≡ a.value = ap (λ (b : InsertionView). b.value) c.add.view_is in
    let after_it = reported_added c.insert_in_place-made.result s.start c.start_prefix.result
    s.joint old new
    _ _ a c.args.room c.requires.subtree.sorted order up c.start_prefix.ensures reported
    (reported_pushed s.start s.joint p ns c.requires.subtree.whole.reported) in
    let few : IsLeaf new = leaf_added c.insert_in_place-made.result old new a room leaf
    (omega (arith, c.len.ensures, ap length pushed, leaf.1)) made in
    let held = c.make_mut.follows.holds new (search rules) in
    subst (λ (ms : List Node). IsLeafOf c.update.new.self ms) (sym held)
    (leaf_whole c.update.new.self new few
    (reported_as c.start_prefix.result c.update.new.self.start _ c.update.new.self.joint None
    c.update.new.self.lazy new c.update.ensures.start
    (c.update.ensures.joint ∙ ap (λ (b : Bool). joint_after c.insert_in_place-made.result b
    c.add.inside.value s.joint) reached ∙
    ap (λ w. joint_after c.insert_in_place-made.result (is_below (start_of new) a.to) w s.joint)
    value) c.update.ensures.lazy after_it))
