-- An Add at a key to the subtrees leaves a branch, and is heeded.
use Rattle.std.proofs.Common.{◌≡◌, ◌∙◌, inl, inr, sym, ap, subst, true, map, ℕ, ◌≤◌, List, length, rules, arith}
use Rattle.std.specs.Prelude.{Option}
use Rattle.std.specs.Arc.{arc_value}
use Rattle.std.specs.Vec.{with_items}
use Rattle.std.proofs.lemmas.List.{with_items_is}
use Rattle.tsc_time.specs.ValueView.{ValueView}
use Rattle.tsc_page_nodes.specs.Nodes.{Node}
use Rattle.tsc_page_nodes.specs.KeyAdds.{KeyInsertionView}
use Rattle.tsc_page_tree.specs.Leaves.{nodes_of, AreSubtrees}
use Rattle.tsc_page_tree.specs.Lazy.{with_lazy, sizes_of, joint_after}
use Rattle.tsc_page_tree.specs.KeyAdds.{IsKeyAddReported}
use Rattle.tsc_page_tree.specs.Trees.{IsBranchOf}
use Rattle.tsc_page_tree.proofs.Lazy.{sorted_without}
use Rattle.tsc_page_tree.proofs.SubtreeLists.{AreSameAs, same_list, copies_same, copies_sorted}
use Rattle.tsc_page_nodes.proofs.PairedOrder.{on_err}
use Rattle.tsc_page_tree.proofs.Wholes.{branch_whole, branch_subtrees, branch_same, reported_as}
use Rattle.tsc_page_tree.proofs.KeyAdds.{reported_lazy, reported_key, refused_key}
use Rattle.tsc_page_tree.proofs.branch.BranchSubtree.add_key.Goals as goal

pub add_key-made-requires : goal.add_key-made-requires
add_key-made-requires g c =
    let f = g.P.Subtree.nodes in
    let s = g.P.Subtree.sizes in
    let Q = g.P.Subtree.IsWhole in
    let xs = (arc_value c.args.self.now.subtrees).items in
    let v = c.in_ok-subtrees.subtrees.now in
    let same : AreSameAs f s Q xs v.items =
    elim c.in_ok-subtrees.ensures.value [
      | inl h ↦ same_list f s Q xs v.items (ap (λ u. u.items) h)
      | inr h ↦ copies_same f s Q _ xs
          v.items g.met.P.Subtree.copied h.0
    ] in
    record {
      subtrees = subst (AreSubtrees f Q) (sym c.deref_mut.ensures.value)
          (copies_sorted f s Q xs v.items same
          (branch_subtrees f s Q c.args.self.now.aggregate xs c.requires.subtree.whole
          c.requires.subtree.sorted));
    }

pub returns-in_err-subtrees-clause-reported : goal.returns-in_err-subtrees-clause-reported
returns-in_err-subtrees-clause-reported g c =
    let f = g.P.Subtree.nodes in
    let s = g.P.Subtree.sizes in
    let Q = g.P.Subtree.IsWhole in
    let p = c.args.self.now.aggregate.lazy in
    let xs = (arc_value c.args.self.now.subtrees).items in
    let ys = (arc_value c.make_mut.follows.lender-at-none).items in
    let left = on_err c.make_mut.result _ _ c.in_err-subtrees.was
    c.make_mut.follows.holds-at-none in
    let same : AreSameAs f s Q xs ys =
    elim left [
      | inl h ↦ same_list f s Q xs ys (ap (λ u. u.items) h)
      | inr h ↦ copies_same f s Q
          _ xs ys g.met.P.Subtree.copied h.0
    ] in
    refused_key c.from_residual.result _ _ _ _ c.args.add.now c.args.room c.from_residual.ensures.0
    (ap (λ (ls : List (List Node)). with_lazy p (nodes_of ls)) same.nodes)
    (ap (λ (ss : List (List ℕ)). sizes_of ss) same.sizes)

pub returns-in_err-subtrees-clause-whole : goal.returns-in_err-subtrees-clause-whole
returns-in_err-subtrees-clause-whole g c =
    let f = g.P.Subtree.nodes in
    let s = g.P.Subtree.sizes in
    let Q = g.P.Subtree.IsWhole in
    let xs = (arc_value c.args.self.now.subtrees).items in
    let ys = (arc_value c.make_mut.follows.lender-at-none).items in
    let left = on_err c.make_mut.result _ _ c.in_err-subtrees.was
    c.make_mut.follows.holds-at-none in
    let same : AreSameAs f s Q xs ys =
    elim left [
      | inl h ↦ same_list f s Q xs ys (ap (λ u. u.items) h)
      | inr h ↦ copies_same f s Q
          _ xs ys g.met.P.Subtree.copied h.0
    ] in
    branch_same f s Q c.args.self.now.aggregate xs ys same c.requires.subtree.whole

pub returns-clause-reported : goal.returns-clause-reported
returns-clause-reported g c =
    let f = g.P.Subtree.nodes in
    let s = g.P.Subtree.sizes in
    let Q = g.P.Subtree.IsWhole in
    let p = c.args.self.now.aggregate.lazy in
    let xs = (arc_value c.args.self.now.subtrees).items in
    let ns : List Node = nodes_of (map f xs) in
    let v = c.in_ok-subtrees.subtrees.now in
    let same : AreSameAs f s Q xs v.items =
    elim c.in_ok-subtrees.ensures.value [
      | inl h ↦ same_list f s Q xs v.items (ap (λ u. u.items) h)
      | inr h ↦ copies_same f s Q _ xs
          v.items g.met.P.Subtree.copied h.0
    ] in
    let ws = c.add_key-made.new.subtrees in
    let new : List Node = nodes_of (map f ws) in
    let a : KeyInsertionView = c.args.add.now in
    let r = c.add_key-made.result in
    let kept = with_items_is v ws (omega
    (arith, c.add_key-made.ensures.len, ap length c.deref_mut.ensures.value, v.ok.0)) in
    let held = ap (λ u. u.items) (c.make_mut.follows.holds (with_items v ws) (search rules)) ∙
    kept in
    let entered = subst (λ (ps : List g.row.P.Denot). IsKeyAddReported (nodes_of (map f ps)) new
    (sizes_of (map s ps)) (sizes_of (map s ws)) a c.args.room r) c.deref_mut.ensures.value
    c.add_key-made.ensures.reported in
    let here = subst (λ (ls : List (List Node)). IsKeyAddReported (nodes_of ls) new
    (sizes_of (map s v.items)) (sizes_of (map s ws)) a c.args.room r) same.nodes entered in
    let reported = subst (λ (ss : List (List ℕ)). IsKeyAddReported ns new (sizes_of ss)
    (sizes_of (map s ws)) a c.args.room r) same.sizes here in
    let below = reported_lazy p ns new _ _ a c.args.room r (sorted_without p ns
    c.requires.subtree.sorted)
    reported in
    subst (λ (ps : List g.row.P.Denot). IsKeyAddReported (with_lazy p ns)
    (with_lazy c.update.new.self.lazy (nodes_of (map f ps))) (sizes_of (map s xs))
    (sizes_of (map s ps)) a c.args.room r) (sym held)
    (subst (λ (o : Option ValueView). IsKeyAddReported (with_lazy p ns) (with_lazy o new)
    (sizes_of (map s xs)) (sizes_of (map s ws)) a c.args.room r)
    (sym c.update.ensures.lazy) below)

pub returns-clause-whole : goal.returns-clause-whole
returns-clause-whole g c =
    let f = g.P.Subtree.nodes in
    let s = g.P.Subtree.sizes in
    let Q = g.P.Subtree.IsWhole in
    let sum = c.args.self.now.aggregate in
    let p = sum.lazy in
    let xs = (arc_value c.args.self.now.subtrees).items in
    let ns : List Node = nodes_of (map f xs) in
    let v = c.in_ok-subtrees.subtrees.now in
    let same : AreSameAs f s Q xs v.items =
    elim c.in_ok-subtrees.ensures.value [
      | inl h ↦ same_list f s Q xs v.items (ap (λ u. u.items) h)
      | inr h ↦ copies_same f s Q _ xs
          v.items g.met.P.Subtree.copied h.0
    ] in
    let ws = c.add_key-made.new.subtrees in
    let new : List Node = nodes_of (map f ws) in
    let a : KeyInsertionView = c.args.add.now in
    let r = c.add_key-made.result in
    let kept = with_items_is v ws (omega
    (arith, c.add_key-made.ensures.len, ap length c.deref_mut.ensures.value, v.ok.0)) in
    let long : length ws ≡ length xs =
    omega (arith, c.add_key-made.ensures.len, ap length c.deref_mut.ensures.value, same.long) in
    let entered = subst (λ (ps : List g.row.P.Denot). IsKeyAddReported (nodes_of (map f ps)) new
    (sizes_of (map s ps)) (sizes_of (map s ws)) a c.args.room r) c.deref_mut.ensures.value
    c.add_key-made.ensures.reported in
    let here = subst (λ (ls : List (List Node)). IsKeyAddReported (nodes_of ls) new
    (sizes_of (map s v.items)) (sizes_of (map s ws)) a c.args.room r) same.nodes entered in
    let reported = reported_key r sum.start sum.joint p ns new _ _ a c.args.room
    c.requires.subtree.sorted here
    c.requires.subtree.whole.reported in
    let few = c.requires.subtree.whole.subtrees in
    subst (λ (ps : List g.row.P.Denot). IsBranchOf f s Q c.update.new.self ps)
    (sym (ap (λ u. u.items) (c.make_mut.follows.holds (with_items v ws) (search rules)) ∙ kept))
    (branch_whole f s Q c.update.new.self ws g.met.P.Subtree.counted
    (record {
      each = c.add_key-made.ensures.whole;
      some = subst (λ (n : ℕ). 1 ≤ n) (sym long) few.some;
      few =
          subst (λ (n : ℕ). n ≤ 64) (sym long) few.few;
    })
    (reported_as sum.start c.update.new.self.start _ c.update.new.self.joint p
    c.update.new.self.lazy new c.update.ensures.start
    (c.update.ensures.joint ∙ ap (λ (x : KeyInsertionView). joint_after r true x.value sum.joint)
    c.add.view_is) c.update.ensures.lazy reported))
