-- One subtree after another is raised, up to the one in which the span stops.
use Rattle.std.proofs.Common.{◌≡◌, ◌∙◌, ◌+◌, ◌<◌, ◌≤◌, ap, sym, subst, ℕ, suc, List, [], map, drop, set, get_or, length, arith}
use Rattle.std.proofs.lemmas.List.{length-map}
use Rattle.std.proofs.lemmas.Result.{IfOk-weaker}
use Rattle.tsc_span.specs.Span.{Cut, before, last, between}
use Rattle.tsc_span.specs.Cuts.{cut_of}
use Rattle.tsc_page_nodes.specs.Nodes.{Node, IsSorted, raise_nodes}
use Rattle.tsc_page_tree.specs.Leaves.{nodes_of, start_of, IsLeafAt}
use Rattle.tsc_span.proofs.CutOrder.{Lt, Le}
use Rattle.tsc_page_tree.proofs.Joins.{sorted_left}
use Rattle.tsc_page_tree.proofs.LeafLists.{subtree_read, all_some, all_set, is_subtree}
use Rattle.tsc_page_tree.proofs.LeafRaises.{RaisesSoFar, raises_start, left_sorted, raises_last, raises_go_on, raises_end, raised_subtree}
use Rattle.tsc_page_tree.proofs.subtrees.raise_beyond.Goals as goal

pub raise_part-requires-clause-subtree : goal.raise_part-requires-clause-subtree
raise_part-requires-clause-subtree g c =
    is_subtree g.P.Subtree.nodes g.P.Subtree.IsWhole c.args.subtrees.now c.args.first
    c.index-subtrees-first.result
    c.requires.goes.bound c.requires.subtrees

pub loop-index-init : goal.loop-index-init
loop-index-init g c =
    let read = g.P.Subtree.nodes in
    let items = c.args.subtrees.now in
    let ls : List (List Node) = map read items in
    let from : Cut = cut_of c.args.from in
    let to : Cut = c.args.to.now in
    let p : ℕ = c.args.first in
    let y = c.raise_part.new.subtree in
    let here : p < length items = c.requires.goes.bound in
    let inside : p < length ls = omega (arith, here, length-map items read) in
    let some = all_some read g.P.Subtree.IsWhole items g.met.P.Subtree.some
    c.requires.subtrees.whole in
    let at : IsLeafAt ls from p = c.requires.goes.first in
    let start = raises_start ls from to c.args.value p some c.requires.subtrees.sorted
    c.requires.order at in
    let more = raises_go_on ls ls from to from c.args.value p some c.requires.subtrees.sorted inside
    start c.requires.goes.beyond in
    let ns = read (get_or items p c.index-subtrees-first.result) in
    let part = c.in_ok-raise_part.ensures.raised
    ∙ ap (λ (x : Cut). raise_nodes (between x c.new-last.result) c.args.value ns) c.new.ensures
    ∙ ap (λ (x : Cut). raise_nodes (between from x) c.args.value ns) c.new-last.ensures in
    let raised = raised_subtree read items p c.index-subtrees-first.result y (between from last)
    c.args.value here part in
    let next : suc p ≡ p + 1 = omega arith in (
      subst (λ (j : ℕ). RaisesSoFar ls (map read (set items p y)) from to (before []) c.args.value
          j) next
          (subst (λ (ks : List (List Node)). RaisesSoFar ls ks from to (before []) c.args.value
          (suc p)) (sym raised) more),
      all_set g.P.Subtree.IsWhole items p y c.requires.subtrees.whole
          c.in_ok-raise_part.ensures.whole,
    )

pub raise_part-requires-then-not-goes_on-clause-subtree :
    goal.raise_part-requires-then-not-goes_on-clause-subtree
raise_part-requires-then-not-goes_on-clause-subtree g c =
    let read = g.P.Subtree.nodes in
    let old : List (List Node) = map read c.args.subtrees.now in
    let items = c.loop-index.subtrees in
    let now : List (List Node) = map read items in
    let p : ℕ = c.loop-index.index in
    let here : p < length items = omega (
      arith,
      c.loop-index-test.true,
      c.loop-index.auto.subtrees,
    ) in
    let some = all_some read g.P.Subtree.IsWhole c.args.subtrees.now g.met.P.Subtree.some
    c.requires.subtrees.whole in
    record {
      whole = c.loop-index.invariant.1 p c.index-subtrees-index.result here;
      sorted =
          subst IsSorted (sym (subtree_read read items p c.index-subtrees-index.result here))
          (sorted_left (get_or now p []) (nodes_of (drop (suc p) now))
          (left_sorted old now (cut_of c.args.from) c.args.to.now (before []) c.args.value p some
          c.requires.subtrees.sorted (omega (arith, here, length-map items read))
          c.loop-index.invariant.0));
    }

pub returns-then-not-goes_on-clause-raised : goal.returns-then-not-goes_on-clause-raised
returns-then-not-goes_on-clause-raised g c =
    let read = g.P.Subtree.nodes in
    let old : List (List Node) = map read c.args.subtrees.now in
    let items = c.loop-index.subtrees in
    let now : List (List Node) = map read items in
    let from : Cut = cut_of c.args.from in
    let to : Cut = c.args.to.now in
    let p : ℕ = c.loop-index.index in
    let d = c.index-subtrees-index.result in
    let y = c.raise_part-then-not-goes_on.new.subtree in
    let here : p < length items = omega (
      arith,
      c.loop-index-test.true,
      c.loop-index.auto.subtrees,
    ) in
    let inside : p < length now = omega (arith, here, length-map items read) in
    let some = all_some read g.P.Subtree.IsWhole c.args.subtrees.now g.met.P.Subtree.some
    c.requires.subtrees.whole in
    let high : Le to (start_of (nodes_of (drop (suc p) now))) = sym c.goes_on.ensures ∙
    c.if-not-goes_on.true in
    IfOk-weaker c.raise_part-then-not-goes_on.result _ _ (λ u h.
    ap nodes_of (raised_subtree read items p d y (between (before []) to) c.args.value here
    (h ∙ ap (λ (x : Cut). raise_nodes (between x to) c.args.value
    (read (get_or items p d))) c.new-least.ensures))
    ∙ raises_last old now from to (before []) c.args.value p some c.requires.subtrees.sorted inside
    c.loop-index.invariant.0 high) c.raise_part-then-not-goes_on.ensures.raised

pub raise_whole-requires :
    goal.raise_whole-requires
raise_whole-requires g c =
    let read = g.P.Subtree.nodes in
    let old : List (List Node) = map read c.args.subtrees.now in
    let items = c.loop-index.subtrees in
    let now : List (List Node) = map read items in
    let p : ℕ = c.loop-index.index in
    let here : p < length items = omega (
      arith,
      c.loop-index-test.true,
      c.loop-index.auto.subtrees,
    ) in
    let some = all_some read g.P.Subtree.IsWhole c.args.subtrees.now g.met.P.Subtree.some
    c.requires.subtrees.whole in
    record {
      subtree = record {
        whole = c.loop-index.invariant.1 p c.index-subtrees-index-in-loop-index.result here;
        sorted =
            subst IsSorted (sym (subtree_read read items p
            c.index-subtrees-index-in-loop-index.result here))
            (sorted_left (get_or now p []) (nodes_of (drop (suc p) now))
            (left_sorted old now (cut_of c.args.from) c.args.to.now (before []) c.args.value p some
            c.requires.subtrees.sorted (omega (arith, here, length-map items read))
            c.loop-index.invariant.0));
      };
    }

pub loop-index-preserved : goal.loop-index-preserved
loop-index-preserved g c =
    let read = g.P.Subtree.nodes in
    let old : List (List Node) = map read c.args.subtrees.now in
    let items = c.loop-index.subtrees in
    let now : List (List Node) = map read items in
    let from : Cut = cut_of c.args.from in
    let to : Cut = c.args.to.now in
    let p : ℕ = c.loop-index.index in
    let y = c.raise_whole.new.self in
    let here : p < length items = omega (
      arith,
      c.loop-index-test.true,
      c.loop-index.auto.subtrees,
    ) in
    let inside : p < length now = omega (arith, here, length-map items read) in
    let some = all_some read g.P.Subtree.IsWhole c.args.subtrees.now g.met.P.Subtree.some
    c.requires.subtrees.whole in
    let goes : Lt (start_of (nodes_of (drop (suc p) now))) to = sym c.goes_on.ensures ∙
    c.if-not-goes_on.false in
    let raised = raised_subtree read items p c.index-subtrees-index-in-loop-index.result y
    (between (before []) last) c.args.value here c.raise_whole.ensures.raised in
    let more = raises_go_on old now from to (before []) c.args.value p some
    c.requires.subtrees.sorted
    inside c.loop-index.invariant.0 goes in
    let next : suc p ≡ p + 1 = omega arith in (
      subst (λ (j : ℕ). RaisesSoFar old (map read (set items p y)) from to (before []) c.args.value
          j) next
          (subst (λ (ls : List (List Node)). RaisesSoFar old ls from to (before []) c.args.value
          (suc p)) (sym raised) more),
      all_set g.P.Subtree.IsWhole items p y c.loop-index.invariant.1 c.raise_whole.ensures.whole,
    )

pub returns-clause-raised : goal.returns-clause-raised
returns-clause-raised g c =
    let read = g.P.Subtree.nodes in
    let items = c.loop-index.subtrees in
    let past : length (map read items) ≤ c.loop-index.index =
    omega (arith, c.loop-index-test.false, c.loop-index.auto.subtrees, length-map items read) in
    raises_end (map read c.args.subtrees.now) (map read items) (cut_of c.args.from) c.args.to.now
    (before []) c.args.value c.loop-index.index past c.loop-index.invariant.0
