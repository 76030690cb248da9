-- The first list is raised from the subtree of the lower cut on, and the second up to that of the
-- upper one.
use Rattle.std.proofs.Common.{◌≡◌, ◌∙◌, ◌≤◌, sym, ap, subst, Bool, true, false, ℕ, suc, List, ◌++◌, map, drop, set, length, arith}
use Rattle.std.specs.Prelude.{Some, not}
use mathlib.Core.Bool.{true≢false}
use Rattle.std.proofs.lemmas.List.{length-map, length-append}
use Rattle.tsc_span.specs.Span.{Cut, is_below}
use Rattle.tsc_page_nodes.specs.Nodes.{Node, raise_nodes}
use Rattle.tsc_page_nodes.specs.Insertions.{InsertionView}
use Rattle.tsc_page_tree.specs.Leaves.{nodes_of, start_of, AreSome, AreSubtrees, IsLeafAt}
use Rattle.tsc_page_tree.specs.Lazy.{everything}
use Rattle.tsc_page_tree.specs.Across.{IsAcrossReported, IsLastReached}
use Rattle.tsc_page_tree.proofs.LeafLists.{all_some, is_subtree}
use Rattle.tsc_page_nodes.specs.Insertions.{IsInsertionView}
use Rattle.tsc_page_tree.specs.Copies.{AllKeepSizes}
use Rattle.tsc_page_tree.proofs.OverSubtrees.{stays_low, stays_high, raises_two, stops_two, keep_same, keeps_low, keeps_high, subtrees_first, subtrees_second}
use Rattle.tsc_page_tree.proofs.across.raise_two.Given.{Over}
use Rattle.tsc_page_tree.proofs.across.raise_two.Goals.{After-split_at_mut-others}
use Rattle.tsc_page_tree.proofs.across.raise_two.Goals as goal

-- what is known of both lists once they are cut
module _ (g : Over) (c : After-split_at_mut-others g) where
  abbrev f : g.row.P.Denot → List Node
  f = g.P.Subtree.nodes

  abbrev bl : List g.row.P.Denot
  bl = c.split_at_mut-below.result.0.now

  abbrev md : List g.row.P.Denot
  md = c.split_at_mut-below.result.1.now

  abbrev ot : List g.row.P.Denot
  ot = c.split_at_mut-others.result.0.now

  abbrev ab : List g.row.P.Denot
  ab = c.split_at_mut-others.result.1.now

  abbrev a : InsertionView
  a = c.args.add.now

  to : c.add.inside.to.now ≡ a.to
  to = ap (λ (v : InsertionView). v.to) c.add.view_is

  fits : IsInsertionView a
  fits = subst IsInsertionView c.add.view_is c.add.invariant

  shape_low : c.args.low.now ≡ bl ++ md
  shape_low = c.split_at_mut-below.ensures.value

  shape_high : c.args.high.now ≡ ot ++ ab
  shape_high = c.split_at_mut-others.ensures.value

  reached : IsLastReached (map f c.args.high.now) a.to c.last_reached-last.result
  reached = subst (λ (z : Cut). IsLastReached (map f c.args.high.now) z c.last_reached-last.result)
      to c.last_reached-last.ensures

  long : length bl ≡ suc c.subtree_at-first.result
  long = omega (arith, c.split_at_mut-below.ensures.front_len)

  front : length ot ≡ c.last_reached-last.result
  front = c.split_at_mut-others.ensures.front_len

  one : 1 ≤ length ab
  one = omega (
    arith,
    front,
    ap length shape_high,
    length-append ot ab,
    reached.bound,
    length-map c.args.high.now f,
    c.requires.high.some,
  )

  subtrees_low : AreSubtrees f g.P.Subtree.IsWhole (bl ++ md)
  subtrees_low = subst (AreSubtrees f g.P.Subtree.IsWhole) shape_low c.requires.low.subtrees

  subtrees_high : AreSubtrees f g.P.Subtree.IsWhole (ot ++ ab)
  subtrees_high = subst (AreSubtrees f g.P.Subtree.IsWhole) shape_high c.requires.high.subtrees

  some_low : AreSome (map f (bl ++ md))
  some_low = all_some f g.P.Subtree.IsWhole (bl ++ md) g.met.P.Subtree.some subtrees_low.whole

  some_high : AreSome (map f (ot ++ ab))
  some_high = all_some f g.P.Subtree.IsWhole (ot ++ ab) g.met.P.Subtree.some subtrees_high.whole

  at : IsLeafAt (map f (bl ++ md)) a.from c.subtree_at-first.result
  at =
      subst (λ (z : Cut). IsLeafAt (map f (bl ++ md)) z c.subtree_at-first.result)
      (ap (λ (v : InsertionView). v.from) c.add.view_is)
      (subst (λ (xs : List g.row.P.Denot). IsLeafAt (map f xs) c.add.inside.from.now
      c.subtree_at-first.result) shape_low c.subtree_at-first.ensures)

  reaches : is_below (start_of (nodes_of (map f (ot ++ ab)))) a.to ≡ true
  reaches = subst (λ (xs : List g.row.P.Denot). is_below (start_of (nodes_of (map f xs))) a.to ≡
      true) shape_high c.requires.reaches

  here : IsLastReached (map f (ot ++ ab)) a.to (length ot)
  here = subst (λ (n : ℕ). IsLastReached (map f (ot ++ ab)) a.to n) (sym front)
      (subst (λ (xs : List g.row.P.Denot). IsLastReached (map f xs) a.to c.last_reached-last.result)
      shape_high reached)

pub bounds-above-0 : goal.bounds-above-0
bounds-above-0 g c = let some = one g (goal.at.bounds-above-0 g c).After-split_at_mut-others
    in omega (arith, some)

pub raise_ends-requires-clause-low : goal.raise_ends-requires-clause-low
raise_ends-requires-clause-low g c =
    let k = (goal.at.raise_ends-requires-clause-low g c).After-split_at_mut-others in
    let f = g.P.Subtree.nodes in
    let Q = g.P.Subtree.IsWhole in
    let p : ℕ = c.subtree_at-first.result in
    let bl = c.split_at_mut-below.result.0.now in
    let md = c.split_at_mut-below.result.1.now in
    is_subtree f Q bl p c.index-below-first.result (omega (arith, (long g k)))
    (subtrees_first f Q bl md (subtrees_low g k))

pub raise_ends-requires-clause-high : goal.raise_ends-requires-clause-high
raise_ends-requires-clause-high g c =
    let k = (goal.at.raise_ends-requires-clause-high g c).After-split_at_mut-others in
    let f = g.P.Subtree.nodes in
    let Q = g.P.Subtree.IsWhole in
    let ot = c.split_at_mut-others.result.0.now in
    let ab = c.split_at_mut-others.result.1.now in
    is_subtree f Q ab 0 c.index-above-0.result (one g k) (subtrees_second f Q ot ab
    (subtrees_high g k))

pub raise_ends-requires-clause-reaches : goal.raise_ends-requires-clause-reaches
raise_ends-requires-clause-reaches g c =
    let k = (goal.at.raise_ends-requires-clause-reaches g c).After-split_at_mut-others in
    let f = g.P.Subtree.nodes in
    let p : ℕ = c.subtree_at-first.result in
    let a : InsertionView = c.args.add.now in
    let bl = c.split_at_mut-below.result.0.now in
    let md = c.split_at_mut-below.result.1.now in
    let ot = c.split_at_mut-others.result.0.now in
    let ab = c.split_at_mut-others.result.1.now in
    let d = c.index-below-first.result in
    let e = c.index-above-0.result in
    (stops_two f bl md ot ab p d d e e (long g k) (one g k) a (some_low g k) (some_high g k)
    (fits g k) (at g k) (reaches g k) (here g k)).subtree

pub returns-in_default-clause-reported : goal.returns-in_default-clause-reported
returns-in_default-clause-reported g c =
    let k = (goal.at.returns-in_default-clause-reported g c).After-split_at_mut-others in
    let f = g.P.Subtree.nodes in
    let p : ℕ = c.subtree_at-first.result in
    let bl = c.split_at_mut-below.result.0.now in
    let md = c.split_at_mut-below.result.1.now in
    let ot = c.split_at_mut-others.result.0.now in
    let ab = c.split_at_mut-others.result.1.now in
    let d = c.index-below-first.result in
    let e = c.index-above-0.result in
    let x = c.raise_ends.new.low in
    let y = c.raise_ends.new.high in
    let reported = c.in_default.ensures.reported in (
      stays_low f bl md ot ab p d x e y (long g k) (one g k) reported.0 ∙
          ap (λ (xs : List g.row.P.Denot). nodes_of (map f xs)) (sym (shape_low g k)),
      stays_high f bl md ot ab p d x e y (long g k) (one g k) reported.1 ∙
          ap (λ (xs : List g.row.P.Denot). nodes_of (map f xs)) (sym (shape_high g k)),
    )

pub returns-in_default-clause-low : goal.returns-in_default-clause-low
returns-in_default-clause-low g c =
    let k = (goal.at.returns-in_default-clause-low g c).After-split_at_mut-others in
    let f = g.P.Subtree.nodes in
    let s = g.P.Subtree.sizes in
    let Q = g.P.Subtree.IsWhole in
    let p : ℕ = c.subtree_at-first.result in
    let bl = c.split_at_mut-below.result.0.now in
    let md = c.split_at_mut-below.result.1.now in
    let x = c.raise_ends.new.low in
    subst (λ (xs : List g.row.P.Denot). AllKeepSizes s Q xs (set bl p x ++ md) false)
    (sym (shape_low g k))
    (keeps_low s Q bl md md p c.index-below-first.result x false (long g k)
    (subtrees_first f Q bl md (subtrees_low g k)).whole c.in_default.ensures.low
    (keep_same s Q md false (subtrees_second f Q bl md (subtrees_low g k)).whole))

pub returns-in_default-clause-high : goal.returns-in_default-clause-high
returns-in_default-clause-high g c =
    let k = (goal.at.returns-in_default-clause-high g c).After-split_at_mut-others in
    let f = g.P.Subtree.nodes in
    let s = g.P.Subtree.sizes in
    let Q = g.P.Subtree.IsWhole in
    let ot = c.split_at_mut-others.result.0.now in
    let ab = c.split_at_mut-others.result.1.now in
    let y = c.raise_ends.new.high in
    subst (λ (xs : List g.row.P.Denot). AllKeepSizes s Q xs (ot ++ set ab 0 y) false)
    (sym (shape_high g k))
    (keeps_high s Q ot ot ab c.index-above-0.result y false (one g k)
    (subtrees_second f Q ot ab (subtrees_high g k)).whole c.in_default.ensures.high
    (keep_same s Q ot false (subtrees_first f Q ot ab (subtrees_high g k)).whole))

pub raise_all-requires : goal.raise_all-requires
raise_all-requires g c =
    let k = (goal.at.raise_all-requires g c).After-split_at_mut-others in
    let f = g.P.Subtree.nodes in
    let Q = g.P.Subtree.IsWhole in
    let bl = c.split_at_mut-below.result.0.now in
    let md = c.split_at_mut-below.result.1.now in
    record { subtrees = subtrees_second f Q bl md (subtrees_low g k) }

pub raise_all-requires-2 : goal.raise_all-requires-2
raise_all-requires-2 g c =
    let k = (goal.at.raise_all-requires-2 g c).After-split_at_mut-others in
    let f = g.P.Subtree.nodes in
    let Q = g.P.Subtree.IsWhole in
    let ot = c.split_at_mut-others.result.0.now in
    let ab = c.split_at_mut-others.result.1.now in
    record { subtrees = subtrees_first f Q ot ab (subtrees_high g k) }

pub returns-clause-reported : goal.returns-clause-reported
returns-clause-reported g c =
    let k = (goal.at.returns-clause-reported g c).After-split_at_mut-others in
    let f = g.P.Subtree.nodes in
    let highs = c.args.high.now in
    let p : ℕ = c.subtree_at-first.result in
    let r : ℕ = c.last_reached-last.result in
    let a : InsertionView = c.args.add.now in
    let bl = c.split_at_mut-below.result.0.now in
    let md = c.split_at_mut-below.result.1.now in
    let ot = c.split_at_mut-others.result.0.now in
    let ab = c.split_at_mut-others.result.1.now in
    let d = c.index-below-first.result in
    let e = c.index-above-0.result in
    let x = c.raise_ends.new.low in
    let y = c.raise_ends.new.high in
    let mn = c.raise_all.new.subtrees in
    let on = c.raise_all-2.new.subtrees in
    let stop : Bool = c.stops_at_next-stops.result in
    let is : stop ≡ not (is_below a.to
    (start_of (nodes_of (drop (suc (length ot)) (map f (ot ++ ab)))))) =
    c.stops_at_next-stops.ensures ∙
    ap (λ (z : Cut). not (is_below z (start_of (nodes_of (drop (suc r) (map f highs))))))
    (to g k) ∙ ap (λ (n : ℕ). not
    (is_below a.to (start_of (nodes_of (drop (suc n) (map f highs)))))) (sym (front g k))
    ∙ ap (λ (xs : List g.row.P.Denot). not
    (is_below a.to (start_of (nodes_of (drop (suc (length ot)) (map f xs))))))
    (shape_high g k) in
    let wholly : nodes_of (map f mn) ≡ raise_nodes everything a.value (nodes_of (map f md)) =
    c.raise_all.ensures.raised ∙
    ap (λ (v : InsertionView). raise_nodes everything v.value (nodes_of (map f md)))
    c.add.view_is in
    let others : nodes_of (map f on) ≡ raise_nodes everything a.value (nodes_of (map f ot)) =
    c.raise_all-2.ensures.raised ∙
    ap (λ (v : InsertionView). raise_nodes everything v.value (nodes_of (map f ot)))
    c.add.view_is in
    subst (λ (xs : List g.row.P.Denot). IsAcrossReported (nodes_of (map f xs))
    (nodes_of (map f (set bl p x ++ mn))) (nodes_of (map f highs))
    (nodes_of (map f (on ++ set ab 0 y))) a c.args.room (Some c.in-Some.more)) (sym (shape_low g k))
    (subst (λ (xs : List g.row.P.Denot). IsAcrossReported (nodes_of (map f (bl ++ md)))
    (nodes_of (map f (set bl p x ++ mn))) (nodes_of (map f xs))
    (nodes_of (map f (on ++ set ab 0 y))) a c.args.room (Some c.in-Some.more)) (sym (shape_high g k)) (
      raises_two f bl md ot ab p d x e y (long g k) (one g k) a (some_low g k) (some_high g k)
          (fits g k) (at g k) (reaches g k) (here g k) mn on stop c.in-Some.more (subtrees_low g k).sorted
          (subtrees_high g k).sorted is c.in-Some.ensures.reported.0 wholly others,
      c.in-Some.ensures.reported.1,
    ))

pub returns-clause-low : goal.returns-clause-low
returns-clause-low g c =
    let k = (goal.at.returns-clause-low g c).After-split_at_mut-others in
    let f = g.P.Subtree.nodes in
    let s = g.P.Subtree.sizes in
    let Q = g.P.Subtree.IsWhole in
    let p : ℕ = c.subtree_at-first.result in
    let bl = c.split_at_mut-below.result.0.now in
    let md = c.split_at_mut-below.result.1.now in
    let x = c.raise_ends.new.low in
    subst (λ (xs : List g.row.P.Denot). AllKeepSizes s Q xs
    (set bl p x ++ c.raise_all.new.subtrees) true)
    (sym (shape_low g k))
    (keeps_low s Q bl md c.raise_all.new.subtrees p c.index-below-first.result x true (long g k)
    (subtrees_first f Q bl md (subtrees_low g k)).whole c.in-Some.ensures.low
    (record {
      sizes = λ h. absurd (true≢false h);
      whole = c.raise_all.ensures.whole;
      len = c.raise_all.ensures.len;
    }))

pub returns-clause-high : goal.returns-clause-high
returns-clause-high g c =
    let k = (goal.at.returns-clause-high g c).After-split_at_mut-others in
    let f = g.P.Subtree.nodes in
    let s = g.P.Subtree.sizes in
    let Q = g.P.Subtree.IsWhole in
    let ot = c.split_at_mut-others.result.0.now in
    let ab = c.split_at_mut-others.result.1.now in
    let y = c.raise_ends.new.high in
    subst (λ (xs : List g.row.P.Denot). AllKeepSizes s Q xs
    (c.raise_all-2.new.subtrees ++ set ab 0 y) true)
    (sym (shape_high g k))
    (keeps_high s Q ot c.raise_all-2.new.subtrees ab c.index-above-0.result y true (one g k)
    (subtrees_second f Q ot ab (subtrees_high g k)).whole c.in-Some.ensures.high
    (record {
      sizes = λ h. absurd (true≢false h);
      whole = c.raise_all-2.ensures.whole;
      len = c.raise_all-2.ensures.len;
    }))
