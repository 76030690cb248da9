-- The subtrees of both branches are raised below the lazy value.
use Rattle.std.proofs.Common.{◌≡◌, ◌∙◌, ◌∷◌, [], sym, ap, subst, cond, Bool, map, ℕ, ◌≤◌, List, length, arith}
use Rattle.std.specs.Prelude.{Option, is_some}
use Rattle.std.specs.Arc.{arc_value}
use Rattle.std.specs.Vec.{with_items}
use Rattle.std.proofs.lemmas.List.{with_items_is}
use Rattle.tsc_time.specs.ValueView.{ValueView}
use Rattle.tsc_time.specs.Joint.{joint}
use Rattle.tsc_span.specs.Span.{Cut, is_below}
use Rattle.tsc_page_nodes.specs.Nodes.{Node}
use Rattle.tsc_page_nodes.specs.Insertions.{InsertionView}
use Rattle.tsc_page_tree.specs.Leaves.{nodes_of, start_of, AreSubtrees}
use Rattle.tsc_page_tree.specs.Lazy.{with_lazy, sizes_of}
use Rattle.tsc_page_tree.specs.Trees.{IsBranchOf}
use Rattle.tsc_page_tree.specs.Across.{IsAcrossReported}
use Rattle.tsc_span.proofs.CutOrder.{Lt}
use Rattle.tsc_page_tree.proofs.Lazy.{lazy-start}
use Rattle.tsc_page_tree.proofs.TreeAcross.{across_lazy, reported_across_low, reported_across_high}
use Rattle.tsc_page_tree.proofs.Wholes.{branch_whole, branch_subtrees, reported_as}
use Rattle.tsc_page_tree.proofs.branch.BranchSubtree.add_across.Goals as goal

pub raise_two-made-requires-clause-low : goal.raise_two-made-requires-clause-low
raise_two-made-requires-clause-low g c =
    let is = c.deref_mut.ensures.value ∙ ap (λ u. u.items) c.in-Some.ensures.value in
    record {
      subtrees = subst (AreSubtrees g.P.Subtree.nodes g.P.Subtree.IsWhole) (sym is)
          (branch_subtrees g.P.Subtree.nodes g.P.Subtree.sizes g.P.Subtree.IsWhole
          c.args.low.now.aggregate
          (arc_value c.args.low.now.subtrees).items c.requires.low.whole c.requires.low.sorted);
      some = omega (arith, ap length is, c.requires.low.whole.subtrees.some);
    }

pub raise_two-made-requires-clause-high : goal.raise_two-made-requires-clause-high
raise_two-made-requires-clause-high g c =
    let is = c.deref_mut-2.ensures.value ∙ ap (λ u. u.items) c.in-Some-get_mut.ensures.value in
    record {
      subtrees = subst (AreSubtrees g.P.Subtree.nodes g.P.Subtree.IsWhole) (sym is)
          (branch_subtrees g.P.Subtree.nodes g.P.Subtree.sizes g.P.Subtree.IsWhole
          c.args.high.now.aggregate
          (arc_value c.args.high.now.subtrees).items c.requires.high.whole c.requires.high.sorted);
      some = omega (arith, ap length is, c.requires.high.whole.subtrees.some);
    }

pub raise_two-made-requires-clause-reaches : goal.raise_two-made-requires-clause-reaches
raise_two-made-requires-clause-reaches g c =
    let read = g.P.Subtree.nodes in
    let is = c.deref_mut-2.ensures.value ∙ ap (λ u. u.items) c.in-Some-get_mut.ensures.value in
    let to : Cut = c.args.add.now.to in
    ap (λ (xs : List g.row.P.Denot). is_below (start_of (nodes_of (map read xs))) to) is ∙
    ap (λ (z : Cut). is_below z to)
    (sym (lazy-start c.args.high.now.aggregate.lazy
    (nodes_of (map read (arc_value c.args.high.now.subtrees).items)))) ∙ c.requires.reaches

pub returns-clause-reported : goal.returns-clause-reported
returns-clause-reported g c =
    let f = g.P.Subtree.nodes in
    let xs = (arc_value c.args.low.now.subtrees).items in
    let ys = (arc_value c.args.high.now.subtrees).items in
    let ns : List Node = nodes_of (map f xs) in
    let ms : List Node = nodes_of (map f ys) in
    let p = c.args.low.now.aggregate.lazy in
    let q = c.args.high.now.aggregate.lazy in
    let v = c.in-Some.below.now in
    let w = c.in-Some-get_mut.above.now in
    let xl = c.raise_two-made.new.low in
    let xh = c.raise_two-made.new.high in
    let nl : List Node = nodes_of (map f xl) in
    let nh : List Node = nodes_of (map f xh) in
    let a : InsertionView = c.args.add.now in
    let r = c.raise_two-made.result in
    let is_low = c.deref_mut.ensures.value ∙ ap (λ u. u.items) c.in-Some.ensures.value in
    let is_high = c.deref_mut-2.ensures.value ∙ ap (λ u. u.items) c.in-Some-get_mut.ensures.value in
    let kept_low = with_items_is v xl
    (omega (
      arith,
      c.raise_two-made.ensures.low.len,
      ap length c.deref_mut.ensures.value,
      v.ok.0,
    )) in
    let kept_high = with_items_is w xh
    (omega (
      arith,
      c.raise_two-made.ensures.high.len,
      ap length c.deref_mut-2.ensures.value,
      w.ok.0,
    )) in
    let across : IsAcrossReported ns nl ms nh a c.args.room r =
    subst (λ (zs : List g.row.P.Denot). IsAcrossReported (nodes_of (map f zs)) nl ms nh a c.args.room r) is_low
    (subst (λ (zs : List g.row.P.Denot). IsAcrossReported (nodes_of (map f c.deref_mut.result.now))
    nl (nodes_of (map f zs)) nh a c.args.room r) is_high c.raise_two-made.ensures.reported) in
    let reported = across_lazy r ns nl ms nh a c.args.room p q c.requires.low.sorted
    c.requires.high.sorted across in
    let first = ap (λ (o : Option ValueView). with_lazy o
    (nodes_of (map f (with_items v xl).items))) c.reach.ensures.lazy ∙
    ap (λ (is : List g.row.P.Denot). with_lazy p (nodes_of (map f is))) kept_low in
    let second = ap (λ (o : Option ValueView). with_lazy o
    (nodes_of (map f (with_items w xh).items))) c.reach-2.ensures.lazy ∙
    ap (λ (is : List g.row.P.Denot). with_lazy q (nodes_of (map f is))) kept_high in
    subst (λ (ks : List Node). IsAcrossReported (with_lazy p ns) ks (with_lazy q ms)
    (with_lazy c.reach-2.new.self.lazy (nodes_of (map f (with_items w xh).items))) a c.args.room r)
    (sym first)
    (subst (λ (ks : List Node). IsAcrossReported (with_lazy p ns) (with_lazy p nl)
    (with_lazy q ms) ks a c.args.room r) (sym second) reported)

pub returns-clause-low : goal.returns-clause-low
returns-clause-low g c =
    let f = g.P.Subtree.nodes in
    let s = g.P.Subtree.sizes in
    let Q = g.P.Subtree.IsWhole in
    let xs = (arc_value c.args.low.now.subtrees).items in
    let ys = (arc_value c.args.high.now.subtrees).items in
    let ns : List Node = nodes_of (map f xs) in
    let ms : List Node = nodes_of (map f ys) in
    let p = c.args.low.now.aggregate.lazy in
    let v = c.in-Some.below.now in
    let xl = c.raise_two-made.new.low in
    let xh = c.raise_two-made.new.high in
    let nl : List Node = nodes_of (map f xl) in
    let nh : List Node = nodes_of (map f xh) in
    let a : InsertionView = c.args.add.now in
    let r = c.raise_two-made.result in
    let is_low = c.deref_mut.ensures.value ∙ ap (λ u. u.items) c.in-Some.ensures.value in
    let is_high = c.deref_mut-2.ensures.value ∙ ap (λ u. u.items) c.in-Some-get_mut.ensures.value in
    let kept_low = with_items_is v xl
    (omega (
      arith,
      c.raise_two-made.ensures.low.len,
      ap length c.deref_mut.ensures.value,
      v.ok.0,
    )) in
    let across : IsAcrossReported ns nl ms nh a c.args.room r =
    subst (λ (zs : List g.row.P.Denot). IsAcrossReported (nodes_of (map f zs)) nl ms nh a c.args.room r) is_low
    (subst (λ (zs : List g.row.P.Denot). IsAcrossReported (nodes_of (map f c.deref_mut.result.now))
    nl (nodes_of (map f zs)) nh a c.args.room r) is_high c.raise_two-made.ensures.reported) in
    let sum = c.args.low.now.aggregate in
    let up : Lt a.from a.to = subst (λ (b : InsertionView). Lt b.from b.to) c.add.view_is
    c.add.invariant.0 in
    let long : length xl ≡ length xs =
    omega (arith, c.raise_two-made.ensures.low.len, ap length is_low) in
    let few = c.requires.low.whole.subtrees in
    record {
      sizes = λ h. ap (λ (ps : List g.row.P.Denot). sizes_of (map s ps)) kept_low ∙
          ap sizes_of (c.raise_two-made.ensures.low.sizes h) ∙
          ap (λ (ps : List g.row.P.Denot). sizes_of (map s ps)) is_low;
      whole = subst (λ (is : List g.row.P.Denot). IsBranchOf f s Q c.reach.new.self is)
          (sym kept_low)
          (branch_whole f s Q c.reach.new.self xl g.met.P.Subtree.counted
          (record {
            each = c.raise_two-made.ensures.low.whole;
            some = subst (λ (n : ℕ). 1 ≤ n) (sym long) few.some;
            few =
                subst (λ (n : ℕ). n ≤ 64) (sym long) few.few;
          })
          (reported_as sum.start c.reach.new.self.start _ c.reach.new.self.joint _
          c.reach.new.self.lazy nl
          c.reach.ensures.start (c.reach.ensures.joint ∙
          ap (λ (d : Bool). cond d (joint sum.joint (c.add.inside.value ∷ [])) sum.joint)
          c.is_some-reached.ensures ∙
          ap (λ (b : InsertionView). cond (is_some r) (joint sum.joint (b.value ∷ [])) sum.joint)
          c.add.view_is)
          c.reach.ensures.lazy
          (reported_across_low r sum.start sum.joint ns nl ms nh a c.args.room p c.requires.low.sorted up across
          c.requires.low.whole.reported)));
    }

pub returns-clause-high : goal.returns-clause-high
returns-clause-high g c =
    let f = g.P.Subtree.nodes in
    let s = g.P.Subtree.sizes in
    let Q = g.P.Subtree.IsWhole in
    let xs = (arc_value c.args.low.now.subtrees).items in
    let ys = (arc_value c.args.high.now.subtrees).items in
    let ns : List Node = nodes_of (map f xs) in
    let ms : List Node = nodes_of (map f ys) in
    let q = c.args.high.now.aggregate.lazy in
    let w = c.in-Some-get_mut.above.now in
    let xl = c.raise_two-made.new.low in
    let xh = c.raise_two-made.new.high in
    let nl : List Node = nodes_of (map f xl) in
    let nh : List Node = nodes_of (map f xh) in
    let a : InsertionView = c.args.add.now in
    let r = c.raise_two-made.result in
    let is_low = c.deref_mut.ensures.value ∙ ap (λ u. u.items) c.in-Some.ensures.value in
    let is_high = c.deref_mut-2.ensures.value ∙ ap (λ u. u.items) c.in-Some-get_mut.ensures.value in
    let kept_high = with_items_is w xh
    (omega (
      arith,
      c.raise_two-made.ensures.high.len,
      ap length c.deref_mut-2.ensures.value,
      w.ok.0,
    )) in
    let across : IsAcrossReported ns nl ms nh a c.args.room r =
    subst (λ (zs : List g.row.P.Denot). IsAcrossReported (nodes_of (map f zs)) nl ms nh a c.args.room r) is_low
    (subst (λ (zs : List g.row.P.Denot). IsAcrossReported (nodes_of (map f c.deref_mut.result.now))
    nl (nodes_of (map f zs)) nh a c.args.room r) is_high c.raise_two-made.ensures.reported) in
    let sum = c.args.high.now.aggregate in
    let up : Lt a.from a.to = subst (λ (b : InsertionView). Lt b.from b.to) c.add.view_is
    c.add.invariant.0 in
    let long : length xh ≡ length ys =
    omega (arith, c.raise_two-made.ensures.high.len, ap length is_high) in
    let few = c.requires.high.whole.subtrees in
    record {
      sizes = λ h. ap (λ (ps : List g.row.P.Denot). sizes_of (map s ps)) kept_high ∙
          ap sizes_of (c.raise_two-made.ensures.high.sizes h) ∙
          ap (λ (ps : List g.row.P.Denot). sizes_of (map s ps)) is_high;
      whole = subst (λ (is : List g.row.P.Denot). IsBranchOf f s Q c.reach-2.new.self is)
          (sym kept_high)
          (branch_whole f s Q c.reach-2.new.self xh g.met.P.Subtree.counted
          (record {
            each = c.raise_two-made.ensures.high.whole;
            some = subst (λ (n : ℕ). 1 ≤ n) (sym long) few.some;
            few =
                subst (λ (n : ℕ). n ≤ 64) (sym long) few.few;
          })
          (reported_as sum.start c.reach-2.new.self.start _ c.reach-2.new.self.joint _
          c.reach-2.new.self.lazy nh c.reach-2.ensures.start
          (c.reach-2.ensures.joint ∙
          ap (λ (d : Bool). cond d (joint sum.joint (c.add.inside.value ∷ [])) sum.joint)
          c.is_some-reached.ensures ∙
          ap (λ (b : InsertionView). cond (is_some r) (joint sum.joint (b.value ∷ [])) sum.joint)
          c.add.view_is)
          c.reach-2.ensures.lazy
          (reported_across_high r sum.start sum.joint ns nl ms nh a c.args.room q c.requires.high.sorted up
          c.requires.reaches across c.requires.high.whole.reported)));
    }
