-- A raise of the subtrees commutes with the lazy value.
use Rattle.std.proofs.Common.{◌≡◌, ◌∙◌, inl, inr, sym, ap, subst, map, ℕ, ◌≤◌, List, length, arith, rules}
use Rattle.std.specs.Prelude.{Option}
use Rattle.std.specs.Arc.{arc_value}
use Rattle.std.specs.Vec.{with_items}
use Rattle.std.proofs.lemmas.List.{with_items_is}
use Rattle.tsc_time.specs.ValueView.{ValueView}
use Rattle.tsc_span.specs.Cuts.{cut_of}
use Rattle.tsc_span.specs.Span.{Cut, between, is_below}
use Rattle.tsc_page_nodes.specs.Nodes.{Node, raise_nodes}
use Rattle.tsc_page_tree.specs.Leaves.{nodes_of, start_of, AreSubtrees}
use Rattle.tsc_page_tree.specs.Lazy.{with_lazy}
use Rattle.tsc_page_tree.specs.Trees.{IsReported, IsBranchOf}
use Rattle.tsc_page_tree.proofs.Lazy.{raise_lazy}
use Rattle.tsc_page_tree.proofs.SubtreeLists.{AreSameAs, same_list, copies_same, copies_sorted}
use Rattle.tsc_page_tree.proofs.TreeAcross.{reported_raised_below}
use Rattle.tsc_page_tree.proofs.Wholes.{branch_whole, branch_subtrees, reported_as}
use Rattle.tsc_page_tree.proofs.branch.BranchSubtree.raise_between.Goals as goal

pub raise_between-requires-clause-subtrees : goal.raise_between-requires-clause-subtrees
raise_between-requires-clause-subtrees g c =
    let f = g.P.Subtree.nodes in
    let s = g.P.Subtree.sizes in
    let Q = g.P.Subtree.IsWhole in
    let xs = (arc_value c.args.self.now.subtrees).items in
    let ys = c.in_ok-subtrees.subtrees.now.items in
    let same : AreSameAs f s Q xs ys =
    elim c.in_ok-subtrees.ensures.value [
      | inl h ↦ same_list f s Q xs ys (ap (λ v. v.items) h)
      | inr h ↦ copies_same f s Q _ xs ys
          g.met.P.Subtree.copied h.0
    ] in
    subst (AreSubtrees f Q) (sym c.deref_mut.ensures.value)
    (copies_sorted f s Q xs ys same
    (branch_subtrees f s Q c.args.self.now.aggregate xs c.requires.subtree.whole
    c.requires.subtree.sorted))

pub returns-clause-raised : goal.returns-clause-raised
returns-clause-raised g c =
    let f = g.P.Subtree.nodes in
    let s = g.P.Subtree.sizes in
    let Q = g.P.Subtree.IsWhole in
    let sum = c.args.self.now.aggregate in
    let p = sum.lazy in
    let from : Cut = cut_of c.args.from in
    let to : Cut = cut_of c.args.to in
    let xs = (arc_value c.args.self.now.subtrees).items in
    let ns : List Node = nodes_of (map f xs) in
    let v = c.in_ok-subtrees.subtrees.now in
    let same : AreSameAs f s Q xs v.items =
    elim c.in_ok-subtrees.ensures.value [
      | inl h ↦ same_list f s Q xs v.items (ap (λ u. u.items) h)
      | inr h ↦ copies_same f s Q _ xs
          v.items g.met.P.Subtree.copied h.0
    ] in
    let ws = c.raise_between.new.subtrees in
    let kept = with_items_is v ws (omega
    (arith, c.raise_between.ensures.len, ap length c.deref_mut.ensures.value, v.ok.0)) in
    let w = with_items v ws in
    let raised : nodes_of (map f ws) ≡ raise_nodes (between from to) c.args.value ns =
    c.in_ok-raise_between.ensures.raised ∙
    ap (λ (is : List g.row.P.Denot). raise_nodes (between from to) c.args.value
    (nodes_of (map f is))) c.deref_mut.ensures.value
    ∙ ap (λ (ls : List (List Node)). raise_nodes (between from to) c.args.value (nodes_of ls))
    same.nodes in
    let held = ap (λ u. u.items) (c.make_mut.follows.holds w (search rules)) ∙ kept in
    ap (λ (o : Option ValueView). with_lazy o
    (nodes_of (map f (arc_value (c.make_mut.follows.lender w)).items))) c.reach.ensures.lazy
    ∙ ap (λ (is : List g.row.P.Denot). with_lazy p (nodes_of (map f is))) held ∙
    ap (with_lazy p) raised ∙ raise_lazy p (between from to) c.args.value ns

pub returns-clause-whole : goal.returns-clause-whole
returns-clause-whole g c =
    let f = g.P.Subtree.nodes in
    let s = g.P.Subtree.sizes in
    let Q = g.P.Subtree.IsWhole in
    let sum = c.args.self.now.aggregate in
    let p = sum.lazy in
    let from : Cut = cut_of c.args.from in
    let to : Cut = cut_of c.args.to in
    let xs = (arc_value c.args.self.now.subtrees).items in
    let ns : List Node = nodes_of (map f xs) in
    let v = c.in_ok-subtrees.subtrees.now in
    let same : AreSameAs f s Q xs v.items =
    elim c.in_ok-subtrees.ensures.value [
      | inl h ↦ same_list f s Q xs v.items (ap (λ u. u.items) h)
      | inr h ↦ copies_same f s Q _ xs
          v.items g.met.P.Subtree.copied h.0
    ] in
    let ws = c.raise_between.new.subtrees in
    let kept = with_items_is v ws (omega
    (arith, c.raise_between.ensures.len, ap length c.deref_mut.ensures.value, v.ok.0)) in
    let w = with_items v ws in
    let raised : nodes_of (map f ws) ≡ raise_nodes (between from to) c.args.value ns =
    c.in_ok-raise_between.ensures.raised ∙
    ap (λ (is : List g.row.P.Denot). raise_nodes (between from to) c.args.value
    (nodes_of (map f is))) c.deref_mut.ensures.value
    ∙ ap (λ (ls : List (List Node)). raise_nodes (between from to) c.args.value (nodes_of ls))
    same.nodes in
    let held = ap (λ u. u.items) (c.make_mut.follows.holds w (search rules)) ∙ kept in
    let reached : c.first_starts_below-reached.result ≡
    is_below (start_of (raise_nodes (between from to) c.args.value ns)) to =
    c.first_starts_below-reached.ensures ∙
    ap (λ (is : List g.row.P.Denot). is_below (start_of (nodes_of (map f is))) c.new.result)
    (c.deref.ensures.value ∙ kept) ∙
    ap (λ (x : Cut). is_below (start_of (nodes_of (map f ws))) x) c.new.ensures ∙
    ap (λ (ms : List Node). is_below (start_of ms) to) raised in
    let reported = reported_raised_below sum.start sum.joint c.args.value p from to ns
    c.first_starts_below-reached.result c.requires.subtree.sorted c.requires.order reached
    c.requires.subtree.whole.reported in
    let reported_now : IsReported c.reach.new.self (nodes_of (map f ws)) =
    subst (λ (ms : List Node). IsReported c.reach.new.self ms) (sym raised)
    (reported_as sum.start c.reach.new.self.start _ c.reach.new.self.joint _
    c.reach.new.self.lazy (raise_nodes (between from to) c.args.value ns)
    c.reach.ensures.start c.reach.ensures.joint c.reach.ensures.lazy reported) in
    let long : length ws ≡ length xs =
    omega (
      arith,
      c.raise_between.ensures.len,
      ap length c.deref_mut.ensures.value,
      same.long,
    ) in
    let few = c.requires.subtree.whole.subtrees in
    subst (λ (is : List g.row.P.Denot). IsBranchOf f s Q c.reach.new.self is) (sym held)
    (branch_whole f s Q c.reach.new.self ws g.met.P.Subtree.counted
    (record {
      each = c.in_ok-raise_between.ensures.whole;
      some = subst (λ (n : ℕ). 1 ≤ n) (sym long) few.some;
      few =
          subst (λ (n : ℕ). n ≤ 64) (sym long) few.few;
    }) reported_now)
