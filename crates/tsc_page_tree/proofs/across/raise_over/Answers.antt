-- The first subtree reached and the last one are raised by themselves, and those between as a
-- whole.
use Rattle.std.proofs.Common.{◌≡◌, ◌∙◌, ◌+◌, ◌<◌, ◌≤◌, sym, ap, subst, Bool, ℕ, suc, List, ◌++◌, true, false, map, drop, set, length, arith}
use mathlib.Core.Bool.{true≢false}
use Rattle.std.specs.Prelude.{not}
use Rattle.std.proofs.lemmas.List.{length-map, length-append}
use Rattle.tsc_span.specs.Span.{Cut, is_below}
use Rattle.tsc_page_nodes.specs.Nodes.{Node, raise_nodes}
use Rattle.tsc_page_nodes.specs.Insertions.{InsertionView}
use Rattle.tsc_page_tree.specs.Leaves.{nodes_of, start_of, AreSome, AreSubtrees, IsLeafAt}
use Rattle.tsc_page_tree.specs.Lazy.{everything, AddsSome}
use Rattle.tsc_page_tree.specs.Across.{IsLastReached}
use Rattle.tsc_page_tree.specs.Copies.{AllKeepSizes}
use Rattle.tsc_page_tree.proofs.LeafLists.{all_some, is_subtree}
use Rattle.tsc_page_nodes.specs.Insertions.{IsInsertionView}
use Rattle.tsc_page_tree.proofs.TreeAcross.{later_reached}
use Rattle.tsc_page_tree.proofs.OverSubtrees.{stays_over, raises_over, stops_over, keep_same, keeps_low, keeps_high, subtrees_first, subtrees_second}
use Rattle.tsc_page_tree.proofs.across.raise_over.Given.{Over}
use Rattle.tsc_page_tree.proofs.across.raise_over.Goals.{After-last_reached-last, After-split_at_mut-mid}
use Rattle.tsc_page_tree.proofs.across.raise_over.Goals as goal

-- the subtree that is reached last comes behind the first
behind_first : (g : Over) (c : After-last_reached-last g) →
    c.args.first < c.last_reached-last.result
behind_first g c =
    let ls : List (List Node) = map g.P.Subtree.nodes c.args.subtrees.now in
    let r : ℕ = c.last_reached-last.result in
    let to : c.add.inside.to.now ≡ c.args.add.now.to = ap (λ (v : InsertionView). v.to)
    c.add.view_is in
    let reached : IsLastReached ls c.args.add.now.to r =
    subst (λ (x : Cut). IsLastReached ls x r) to c.last_reached-last.ensures in
    later_reached ls c.args.add.now.to c.args.first r
    (all_some g.P.Subtree.nodes g.P.Subtree.IsWhole c.args.subtrees.now g.met.P.Subtree.some
    c.requires.subtrees.whole) c.requires.subtrees.sorted c.requires.goes.beyond reached.stops

-- what is known of the subtrees once they are cut
module _ (g : Over) (c : After-split_at_mut-mid g) where
  abbrev f : g.row.P.Denot → List Node
  f = g.P.Subtree.nodes

  abbrev bl : List g.row.P.Denot
  bl = c.split_at_mut-below.result.0.now

  abbrev md : List g.row.P.Denot
  md = c.split_at_mut-mid.result.0.now

  abbrev ab : List g.row.P.Denot
  ab = c.split_at_mut-mid.result.1.now

  abbrev a : InsertionView
  a = c.args.add.now

  to : c.add.inside.to.now ≡ a.to
  to = ap (λ (v : InsertionView). v.to) c.add.view_is

  reached : IsLastReached (map f c.args.subtrees.now) a.to c.last_reached-last.result
  reached = subst (λ (x : Cut). IsLastReached (map f c.args.subtrees.now) x
      c.last_reached-last.result)
      to c.last_reached-last.ensures

  later : c.args.first < c.last_reached-last.result
  later = later_reached (map f c.args.subtrees.now) a.to c.args.first c.last_reached-last.result
      (all_some f g.P.Subtree.IsWhole c.args.subtrees.now g.met.P.Subtree.some
      c.requires.subtrees.whole)
      c.requires.subtrees.sorted c.requires.goes.beyond reached.stops

  fits : IsInsertionView a
  fits = subst IsInsertionView c.add.view_is c.add.invariant

  shape : c.args.subtrees.now ≡ bl ++ (md ++ ab)
  shape = c.split_at_mut-below.ensures.value ∙
      ap (λ (xs : List g.row.P.Denot). bl ++ xs) c.split_at_mut-mid.ensures.value

  long : length bl ≡ suc c.args.first
  long = omega (arith, c.split_at_mut-below.ensures.front_len)

  sum : length bl + length md ≡ c.last_reached-last.result
  sum = omega (
    arith,
    c.split_at_mut-below.ensures.front_len,
    c.split_at_mut-mid.ensures.front_len,
    later,
  )

  one : 1 ≤ length ab
  one = omega (
    arith,
    sum,
    ap length shape,
    length-append bl (md ++ ab),
    length-append md ab,
    reached.bound,
    length-map c.args.subtrees.now f,
    c.requires.goes.bound,
  )

  subtrees : AreSubtrees f g.P.Subtree.IsWhole (bl ++ (md ++ ab))
  subtrees = subst (AreSubtrees f g.P.Subtree.IsWhole) shape c.requires.subtrees

  some : AreSome (map f (bl ++ (md ++ ab)))
  some = all_some f g.P.Subtree.IsWhole (bl ++ (md ++ ab)) g.met.P.Subtree.some subtrees.whole

  at : IsLeafAt (map f (bl ++ (md ++ ab))) a.from c.args.first
  at = subst (λ (xs : List g.row.P.Denot). IsLeafAt (map f xs) a.from c.args.first) shape
      c.requires.goes.first

  here : IsLastReached (map f (bl ++ (md ++ ab))) a.to (length bl + length md)
  here =
      subst (λ (n : ℕ). IsLastReached (map f (bl ++ (md ++ ab))) a.to n) (sym sum)
      (subst (λ (xs : List g.row.P.Denot). IsLastReached (map f xs) a.to c.last_reached-last.result)
      shape reached)

pub last_reached-last-requires-clause-some : goal.last_reached-last-requires-clause-some
last_reached-last-requires-clause-some g c = omega (arith, c.requires.goes.bound)

pub stops_at_next-stops-requires-clause-bound : goal.stops_at_next-stops-requires-clause-bound
stops_at_next-stops-requires-clause-bound g c =
    omega (
      arith,
      c.last_reached-last.ensures.bound,
      length-map c.args.subtrees.now g.P.Subtree.nodes,
      c.requires.goes.bound,
    )

pub overflow_sub-last : goal.overflow_sub-last
overflow_sub-last g c = omega (
  arith,
  behind_first g (goal.at.overflow_sub-last g c).After-last_reached-last,
)

pub overflow_sub-last-2 : goal.overflow_sub-last-2
overflow_sub-last-2 g c = omega (
  arith,
  behind_first g (goal.at.overflow_sub-last-2 g c).After-last_reached-last,
)

pub split_at_mut-mid-requires : goal.split_at_mut-mid-requires
split_at_mut-mid-requires g c =
    omega (
      arith,
      behind_first g (goal.at.split_at_mut-mid-requires g c).After-last_reached-last,
      c.split_at_mut-below.ensures.back_len,
      c.last_reached-last.ensures.bound,
      length-map c.args.subtrees.now g.P.Subtree.nodes,
      c.requires.goes.bound,
    )

pub bounds-below-first : goal.bounds-below-first
bounds-below-first g c =
    let k = (goal.at.bounds-below-first g c).After-split_at_mut-mid in
    omega (arith, (long g k))

pub bounds-above-0 : goal.bounds-above-0
bounds-above-0 g c =
    let k = (goal.at.bounds-above-0 g c).After-split_at_mut-mid in
    omega (arith, (one g k))

pub raise_ends-requires-clause-low : goal.raise_ends-requires-clause-low
raise_ends-requires-clause-low g c =
    let k = (goal.at.raise_ends-requires-clause-low g c).After-split_at_mut-mid in
    let f = g.P.Subtree.nodes in
    let Q = g.P.Subtree.IsWhole in
    let bl = c.split_at_mut-below.result.0.now in
    let md = c.split_at_mut-mid.result.0.now in
    let ab = c.split_at_mut-mid.result.1.now in
    is_subtree f Q bl c.args.first c.index-below-first.result (omega (arith, (long g k)))
    (subtrees_first f Q bl (md ++ ab) (subtrees g k))

pub raise_ends-requires-clause-high : goal.raise_ends-requires-clause-high
raise_ends-requires-clause-high g c =
    let k = (goal.at.raise_ends-requires-clause-high g c).After-split_at_mut-mid in
    let f = g.P.Subtree.nodes in
    let Q = g.P.Subtree.IsWhole in
    let bl = c.split_at_mut-below.result.0.now in
    let md = c.split_at_mut-mid.result.0.now in
    let ab = c.split_at_mut-mid.result.1.now in
    is_subtree f Q ab 0 c.index-above-0.result (one g k)
    (subtrees_second f Q md ab (subtrees_second f Q bl (md ++ ab) (subtrees g k)))

pub raise_ends-requires-clause-reaches : goal.raise_ends-requires-clause-reaches
raise_ends-requires-clause-reaches g c =
    let k = (goal.at.raise_ends-requires-clause-reaches g c).After-split_at_mut-mid in
    let f = g.P.Subtree.nodes in
    let p : ℕ = c.args.first in
    let a : InsertionView = c.args.add.now in
    let bl = c.split_at_mut-below.result.0.now in
    let md = c.split_at_mut-mid.result.0.now in
    let ab = c.split_at_mut-mid.result.1.now in
    let d = c.index-below-first.result in
    let e = c.index-above-0.result in
    (stops_over f bl md ab p d d e e (long g k) (one g k) a (some g k) (fits g k) (at g k)
    (here g k)).subtree

pub returns-in_default-clause-reported : goal.returns-in_default-clause-reported
returns-in_default-clause-reported g c =
    let k = (goal.at.returns-in_default-clause-reported g c).After-split_at_mut-mid in
    let f = g.P.Subtree.nodes in
    let p : ℕ = c.args.first in
    let bl = c.split_at_mut-below.result.0.now in
    let md = c.split_at_mut-mid.result.0.now in
    let ab = c.split_at_mut-mid.result.1.now in
    let d = c.index-below-first.result in
    let e = c.index-above-0.result in
    let x = c.raise_ends.new.low in
    let y = c.raise_ends.new.high in
    let reported = c.in_default.ensures.reported in
    stays_over f bl md ab p d x e y (long g k) (one g k) reported.0 reported.1 ∙
    ap (λ (xs : List g.row.P.Denot). nodes_of (map f xs)) (sym (shape g k))

pub returns-in_default-clause-kept : goal.returns-in_default-clause-kept
returns-in_default-clause-kept g c =
    let k = (goal.at.returns-in_default-clause-kept g c).After-split_at_mut-mid in
    let f = g.P.Subtree.nodes in
    let s = g.P.Subtree.sizes in
    let Q = g.P.Subtree.IsWhole in
    let p : ℕ = c.args.first in
    let bl = c.split_at_mut-below.result.0.now in
    let md = c.split_at_mut-mid.result.0.now in
    let ab = c.split_at_mut-mid.result.1.now in
    let x = c.raise_ends.new.low in
    let y = c.raise_ends.new.high in
    let rest = subtrees_second f Q bl (md ++ ab) (subtrees g k) in
    subst (λ (xs : List g.row.P.Denot). AllKeepSizes s Q xs
    (set bl p x ++ (md ++ set ab 0 y)) false) (sym (shape g k))
    (keeps_low s Q bl (md ++ ab) (md ++ set ab 0 y) p c.index-below-first.result x false
    (long g k) (subtrees_first f Q bl (md ++ ab) (subtrees g k)).whole c.in_default.ensures.low
    (keeps_high s Q md md ab c.index-above-0.result y false (one g k)
    (subtrees_second f Q md ab rest).whole c.in_default.ensures.high
    (keep_same s Q md false (subtrees_first f Q md ab rest).whole)))

pub raise_all-requires : goal.raise_all-requires
raise_all-requires g c =
    let k = (goal.at.raise_all-requires g c).After-split_at_mut-mid in
    let f = g.P.Subtree.nodes in
    let Q = g.P.Subtree.IsWhole in
    let bl = c.split_at_mut-below.result.0.now in
    let md = c.split_at_mut-mid.result.0.now in
    let ab = c.split_at_mut-mid.result.1.now in
    record {
      subtrees = subtrees_first f Q md ab (subtrees_second f Q bl (md ++ ab)
          (subtrees g k));
    }

pub returns-clause-reported : goal.returns-clause-reported
returns-clause-reported g c =
    let k = (goal.at.returns-clause-reported g c).After-split_at_mut-mid in
    let f = g.P.Subtree.nodes in
    let items = c.args.subtrees.now in
    let ls : List (List Node) = map f items in
    let p : ℕ = c.args.first in
    let r : ℕ = c.last_reached-last.result in
    let a : InsertionView = c.args.add.now in
    let bl = c.split_at_mut-below.result.0.now in
    let md = c.split_at_mut-mid.result.0.now in
    let ab = c.split_at_mut-mid.result.1.now in
    let d = c.index-below-first.result in
    let e = c.index-above-0.result in
    let x = c.raise_ends.new.low in
    let y = c.raise_ends.new.high in
    let mn = c.raise_all.new.subtrees in
    let stop : Bool = c.stops_at_next-stops.result in
    let is : stop ≡ not (is_below a.to
    (start_of (nodes_of (drop (suc (length bl + length md)) (map f (bl ++ (md ++ ab))))))) =
    c.stops_at_next-stops.ensures ∙
    ap (λ (z : Cut). not (is_below z (start_of (nodes_of (drop (suc r) ls))))) (to g k) ∙
    ap (λ (n : ℕ). not (is_below a.to (start_of (nodes_of (drop (suc n) ls))))) (sym (sum g k))
    ∙ ap (λ (xs : List g.row.P.Denot). not
    (is_below a.to (start_of (nodes_of (drop (suc (length bl + length md)) (map f xs))))))
    (shape g k) in
    let wholly : nodes_of (map f mn) ≡ raise_nodes everything a.value (nodes_of (map f md)) =
    c.raise_all.ensures.raised ∙
    ap (λ (v : InsertionView). raise_nodes everything v.value (nodes_of (map f md)))
    c.add.view_is in
    subst (λ (xs : List g.row.P.Denot). AddsSome (nodes_of (map f xs))
    (nodes_of (map f (set bl p x ++ (mn ++ set ab 0 y)))) a c.args.room c.in-Some.more)
    (sym (shape g k))
    (raises_over f bl md ab p d x e y (long g k) (one g k) a (some g k) (fits g k) (at g k)
    (here g k) mn stop c.args.room c.in-Some.more (subtrees g k).sorted is
    c.in-Some.ensures.reported.0 c.in-Some.ensures.reported.1 wholly)

pub returns-clause-kept : goal.returns-clause-kept
returns-clause-kept g c =
    let k = (goal.at.returns-clause-kept g c).After-split_at_mut-mid in
    let f = g.P.Subtree.nodes in
    let s = g.P.Subtree.sizes in
    let Q = g.P.Subtree.IsWhole in
    let p : ℕ = c.args.first in
    let bl = c.split_at_mut-below.result.0.now in
    let md = c.split_at_mut-mid.result.0.now in
    let ab = c.split_at_mut-mid.result.1.now in
    let x = c.raise_ends.new.low in
    let y = c.raise_ends.new.high in
    let rest = subtrees_second f Q bl (md ++ ab) (subtrees g k) in
    subst (λ (xs : List g.row.P.Denot). AllKeepSizes s Q xs
    (set bl p x ++ (c.raise_all.new.subtrees ++ set ab 0 y)) true) (sym (shape g k))
    (keeps_low s Q bl (md ++ ab) (c.raise_all.new.subtrees ++ set ab 0 y) p
    c.index-below-first.result x true
    (long g k) (subtrees_first f Q bl (md ++ ab) (subtrees g k)).whole c.in-Some.ensures.low
    (keeps_high s Q md c.raise_all.new.subtrees ab c.index-above-0.result y true (one g k)
    (subtrees_second f Q md ab rest).whole c.in-Some.ensures.high
    (record {
      sizes = λ h. absurd (true≢false h);
      whole = c.raise_all.ensures.whole;
      len = c.raise_all.ensures.len;
    })))
