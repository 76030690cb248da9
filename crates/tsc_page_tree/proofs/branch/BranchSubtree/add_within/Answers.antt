-- An Add to the subtrees leaves a branch, and is heeded.
use Rattle.std.proofs.Common.{◌≡◌, ◌∙◌, inl, inr, sym, ap, subst, map, ℕ, ◌≤◌, Bool, List, length, rules, arith}
use Rattle.std.specs.Prelude.{Option, None}
use Rattle.std.specs.Arc.{arc_value}
use Rattle.std.specs.Vec.{with_items}
use Rattle.std.proofs.lemmas.List.{with_items_is}
use Rattle.tsc_time.specs.ValueView.{ValueView}
use Rattle.tsc_span.specs.Span.{is_below}
use Rattle.tsc_page_nodes.specs.Nodes.{Node, IsSorted, IsInOrder}
use Rattle.tsc_page_nodes.specs.Insertions.{InsertionView}
use Rattle.tsc_page_tree.specs.Leaves.{nodes_of, start_of, AreSubtrees}
use Rattle.tsc_page_tree.specs.Lazy.{with_lazy, sizes_of, IsAddReported, joint_after}
use Rattle.tsc_page_tree.specs.Trees.{IsBranchOf}
use Rattle.tsc_span.proofs.CutOrder.{Lt}
use Rattle.tsc_span.specs.Prefixes.{IsCutPrefix}
use Rattle.tsc_page_tree.proofs.SubtreeLists.{AreSameAs, same_list, copies_same, copies_sorted}
use Rattle.tsc_page_tree.proofs.Reported.{reported_pushed, reported_added}
use Rattle.tsc_page_nodes.proofs.PairedOrder.{on_err}
use Rattle.tsc_page_tree.proofs.Wholes.{branch_whole, branch_subtrees, branch_same, reported_as, refused_reported}
use Rattle.tsc_page_tree.proofs.branch.BranchSubtree.add_within.Goals as goal

pub push_down-requires : goal.push_down-requires
push_down-requires g c =
    let f = g.P.Subtree.nodes in
    let s = g.P.Subtree.sizes in
    let Q = g.P.Subtree.IsWhole in
    let xs = (arc_value c.args.self.now.subtrees).items in
    let v = c.in_ok-subtrees.subtrees.now in
    let same : AreSameAs f s Q xs v.items =
    elim c.in_ok-subtrees.ensures.value [
      | inl h ↦ same_list f s Q xs v.items (ap (λ u. u.items) h)
      | inr h ↦ copies_same f s Q _ xs
          v.items g.met.P.Subtree.copied h.0
    ] in
    record {
      subtrees = subst (AreSubtrees f Q) (sym c.deref_mut.ensures.value)
          (copies_sorted f s Q xs v.items same
          (branch_subtrees f s Q c.args.self.now.aggregate xs c.requires.subtree.whole
          c.requires.subtree.sorted));
    }

pub add_within-made-requires : goal.add_within-made-requires
add_within-made-requires g c =
    let f = g.P.Subtree.nodes in
    let s = g.P.Subtree.sizes in
    let Q = g.P.Subtree.IsWhole in
    let p = c.args.self.now.aggregate.lazy in
    let xs = (arc_value c.args.self.now.subtrees).items in
    let ns : List Node = nodes_of (map f xs) in
    let v = c.in_ok-subtrees.subtrees.now in
    let same : AreSameAs f s Q xs v.items =
    elim c.in_ok-subtrees.ensures.value [
      | inl h ↦ same_list f s Q xs v.items (ap (λ u. u.items) h)
      | inr h ↦ copies_same f s Q _ xs
          v.items g.met.P.Subtree.copied h.0
    ] in
    let zs = c.push_down.new.subtrees in
    let pushed : nodes_of (map f zs) ≡ with_lazy p ns = c.push_down.ensures.nodes ∙
    ap (λ (ps : List g.row.P.Denot). with_lazy p (nodes_of (map f ps)))
    c.deref_mut.ensures.value ∙
    ap (λ (ls : List (List Node)). with_lazy p (nodes_of ls)) same.nodes in
    let kept = with_items_is v zs (omega
    (arith, c.push_down.ensures.len, ap length c.deref_mut.ensures.value, v.ok.0)) in
    let entered = c.deref_mut-2.ensures.value ∙ kept in
    record {
      subtrees = subst (AreSubtrees f Q) (sym entered)
          (record {
            whole = c.push_down.ensures.whole;
            sorted = subst IsSorted (sym pushed) c.requires.subtree.sorted;
          });
    }

pub returns-in_err-subtrees-clause-reported : goal.returns-in_err-subtrees-clause-reported
returns-in_err-subtrees-clause-reported g c =
    let f = g.P.Subtree.nodes in
    let s = g.P.Subtree.sizes in
    let Q = g.P.Subtree.IsWhole in
    let p = c.args.self.now.aggregate.lazy in
    let xs = (arc_value c.args.self.now.subtrees).items in
    let ys = (arc_value c.make_mut.follows.lender-at-none).items in
    let left = on_err c.make_mut.result _ _ c.in_err-subtrees.was
    c.make_mut.follows.holds-at-none in
    let same : AreSameAs f s Q xs ys =
    elim left [
      | inl h ↦ same_list f s Q xs ys (ap (λ u. u.items) h)
      | inr h ↦ copies_same f s Q
          _ xs ys g.met.P.Subtree.copied h.0
    ] in
    refused_reported c.from_residual.result _ _ _ _ c.args.add.now c.args.room
    c.from_residual.ensures.0 (ap (λ (ls : List (List Node)). with_lazy p (nodes_of ls)) same.nodes)
    (ap (λ (ss : List (List ℕ)). sizes_of ss) same.sizes)

pub returns-in_err-subtrees-clause-whole : goal.returns-in_err-subtrees-clause-whole
returns-in_err-subtrees-clause-whole g c =
    let f = g.P.Subtree.nodes in
    let s = g.P.Subtree.sizes in
    let Q = g.P.Subtree.IsWhole in
    let xs = (arc_value c.args.self.now.subtrees).items in
    let ys = (arc_value c.make_mut.follows.lender-at-none).items in
    let left = on_err c.make_mut.result _ _ c.in_err-subtrees.was
    c.make_mut.follows.holds-at-none in
    let same : AreSameAs f s Q xs ys =
    elim left [
      | inl h ↦ same_list f s Q xs ys (ap (λ u. u.items) h)
      | inr h ↦ copies_same f s Q
          _ xs ys g.met.P.Subtree.copied h.0
    ] in
    branch_same f s Q c.args.self.now.aggregate xs ys same c.requires.subtree.whole

pub returns-clause-reported : goal.returns-clause-reported
returns-clause-reported g c =
    let f = g.P.Subtree.nodes in
    let s = g.P.Subtree.sizes in
    let Q = g.P.Subtree.IsWhole in
    let p = c.args.self.now.aggregate.lazy in
    let xs = (arc_value c.args.self.now.subtrees).items in
    let ns : List Node = nodes_of (map f xs) in
    let v = c.in_ok-subtrees.subtrees.now in
    let same : AreSameAs f s Q xs v.items =
    elim c.in_ok-subtrees.ensures.value [
      | inl h ↦ same_list f s Q xs v.items (ap (λ u. u.items) h)
      | inr h ↦ copies_same f s Q _ xs
          v.items g.met.P.Subtree.copied h.0
    ] in
    let zs = c.push_down.new.subtrees in
    let pushed : nodes_of (map f zs) ≡ with_lazy p ns = c.push_down.ensures.nodes ∙
    ap (λ (ps : List g.row.P.Denot). with_lazy p (nodes_of (map f ps)))
    c.deref_mut.ensures.value ∙
    ap (λ (ls : List (List Node)). with_lazy p (nodes_of ls)) same.nodes in
    let kept = with_items_is v zs (omega
    (arith, c.push_down.ensures.len, ap length c.deref_mut.ensures.value, v.ok.0)) in
    let ws = c.add_within-made.new.subtrees in
    let new : List Node = nodes_of (map f ws) in
    let a : InsertionView = c.args.add.now in
    let r = c.add_within-made.result in
    let entered = c.deref_mut-2.ensures.value ∙ kept in
    let kept_now = with_items_is (with_items v zs) ws
    (omega (
      arith,
      c.add_within-made.ensures.len,
      ap length entered,
      c.push_down.ensures.len,
      ap length c.deref_mut.ensures.value,
      v.ok.0,
    )) in
    let held = ap (λ u. u.items) (c.make_mut.follows.holds (with_items (with_items v zs) ws)
    (search rules)) ∙ kept_now in
    let sizes : sizes_of (map s zs) ≡ sizes_of (map s xs) =
    ap (λ (ss : List (List ℕ)). sizes_of ss)
    (c.push_down.ensures.sizes ∙ ap (map s) c.deref_mut.ensures.value ∙ same.sizes) in
    let reported : IsAddReported (with_lazy p ns) new (sizes_of (map s xs)) (sizes_of (map s ws)) a
    c.args.room r =
    subst (λ (ms : List Node). IsAddReported ms new (sizes_of (map s xs)) (sizes_of (map s ws)) a
    c.args.room r) pushed
    (subst (λ (ss : List ℕ). IsAddReported (nodes_of (map f zs)) new ss (sizes_of (map s ws)) a
    c.args.room r) sizes
    (subst (λ (ps : List g.row.P.Denot). IsAddReported (nodes_of (map f ps)) new
    (sizes_of (map s ps))
    (sizes_of (map s ws)) a c.args.room r) entered c.add_within-made.ensures.reported)) in
    let none : c.update.new.self.lazy ≡ None = c.update.ensures.lazy in
    subst (λ (o : Option ValueView). IsAddReported (with_lazy p ns)
    (with_lazy o (nodes_of (map f
    (arc_value (c.make_mut.follows.lender (with_items (with_items v zs) ws))).items)))
    (sizes_of (map s xs)) (sizes_of
    (map s (arc_value (c.make_mut.follows.lender (with_items (with_items v zs) ws))).items)) a
    c.args.room r) (sym none)
    (subst (λ (ps : List g.row.P.Denot). IsAddReported (with_lazy p ns) (nodes_of (map f ps))
    (sizes_of (map s xs)) (sizes_of (map s ps)) a c.args.room r) (sym held) reported)

pub returns-clause-whole : goal.returns-clause-whole
returns-clause-whole g c =
    let f = g.P.Subtree.nodes in
    let s = g.P.Subtree.sizes in
    let Q = g.P.Subtree.IsWhole in
    let sum = c.args.self.now.aggregate in
    let p = sum.lazy in
    let xs = (arc_value c.args.self.now.subtrees).items in
    let ns : List Node = nodes_of (map f xs) in
    let v = c.in_ok-subtrees.subtrees.now in
    let same : AreSameAs f s Q xs v.items =
    elim c.in_ok-subtrees.ensures.value [
      | inl h ↦ same_list f s Q xs v.items (ap (λ u. u.items) h)
      | inr h ↦ copies_same f s Q _ xs
          v.items g.met.P.Subtree.copied h.0
    ] in
    let a : InsertionView = c.args.add.now in
    let r = c.add_within-made.result in
    let zs = c.push_down.new.subtrees in
    let pushed : nodes_of (map f zs) ≡ with_lazy p ns = c.push_down.ensures.nodes ∙
    ap (λ (ps : List g.row.P.Denot). with_lazy p (nodes_of (map f ps)))
    c.deref_mut.ensures.value ∙
    ap (λ (ls : List (List Node)). with_lazy p (nodes_of ls)) same.nodes in
    let kept = with_items_is v zs (omega
    (arith, c.push_down.ensures.len, ap length c.deref_mut.ensures.value, v.ok.0)) in
    let ws = c.add_within-made.new.subtrees in
    let new : List Node = nodes_of (map f ws) in
    let entered = c.deref_mut-2.ensures.value ∙ kept in
    let kept_now = with_items_is (with_items v zs) ws
    (omega (
      arith,
      c.add_within-made.ensures.len,
      ap length entered,
      c.push_down.ensures.len,
      ap length c.deref_mut.ensures.value,
      v.ok.0,
    )) in
    let long : length ws ≡ length xs =
    omega (
      arith,
      c.add_within-made.ensures.len,
      ap length entered,
      c.push_down.ensures.len,
      ap length c.deref_mut.ensures.value,
      same.long,
    ) in
    let reported : IsAddReported (with_lazy p ns) new (sizes_of (map s zs)) (sizes_of (map s ws)) a
    c.args.room r =
    subst (λ (ms : List Node). IsAddReported ms new (sizes_of (map s zs)) (sizes_of (map s ws)) a
    c.args.room r) pushed
    (subst (λ (ps : List g.row.P.Denot). IsAddReported (nodes_of (map f ps)) new
    (sizes_of (map s ps))
    (sizes_of (map s ws)) a c.args.room r) entered c.add_within-made.ensures.reported) in
    let order : IsInOrder a.first a.second =
    subst (λ (b : InsertionView). IsInOrder b.first b.second) c.add.view_is c.add.invariant.3 in
    let up : Lt a.from a.to = subst (λ (b : InsertionView). Lt b.from b.to) c.add.view_is
    c.add.invariant.0 in
    let seen = c.deref.ensures.value ∙ kept_now in
    let seen_start = c.deref-2.ensures.value ∙ kept_now in
    let start : IsCutPrefix c.start_prefix.result (start_of new) =
    subst (λ (ps : List g.row.P.Denot). IsCutPrefix c.start_prefix.result
    (start_of (nodes_of (map f ps)))) seen_start c.start_prefix.ensures in
    let reached : c.first_starts_below-reached.result ≡ is_below (start_of new) a.to =
    c.first_starts_below-reached.ensures ∙
    ap (λ (ps : List g.row.P.Denot). is_below (start_of (nodes_of (map f ps)))
    c.add.inside.to.now) seen ∙
    ap (λ (b : InsertionView). is_below (start_of new) b.to) c.add.view_is in
    let value : c.add.inside.value ≡ a.value = ap (λ (b : InsertionView). b.value) c.add.view_is in
    let after_it = reported_added r sum.start c.start_prefix.result sum.joint (with_lazy p ns) new _
    _ a c.args.room c.requires.subtree.sorted order up start reported
    (reported_pushed sum.start sum.joint p ns c.requires.subtree.whole.reported) in
    let few = c.requires.subtree.whole.subtrees in
    subst (λ (ps : List g.row.P.Denot). IsBranchOf f s Q c.update.new.self ps)
    (sym (ap (λ u. u.items) (c.make_mut.follows.holds (with_items (with_items v zs) ws)
    (search rules)) ∙ kept_now))
    (branch_whole f s Q c.update.new.self ws g.met.P.Subtree.counted
    (record {
      each = c.add_within-made.ensures.whole;
      some = subst (λ (n : ℕ). 1 ≤ n) (sym long) few.some;
      few =
          subst (λ (n : ℕ). n ≤ 64) (sym long) few.few;
    })
    (reported_as c.start_prefix.result c.update.new.self.start _ c.update.new.self.joint None
    c.update.new.self.lazy new c.update.ensures.start
    (c.update.ensures.joint ∙ ap (λ (b : Bool). joint_after r b c.add.inside.value sum.joint)
    reached
    ∙ ap (λ (w : ValueView). joint_after r (is_below (start_of new) a.to) w sum.joint) value)
    c.update.ensures.lazy after_it))
