-- The key falls in one subtree, and what it answers is the answer.
use Rattle.std.proofs.Common.{◌∙◌, ◌<◌, ◌≤◌, ap, sym, subst, refl, ℕ, suc, List, [], map, get_or, take, drop, length, arith}
use Rattle.std.proofs.lemmas.List.{length-map, drop_all}
use Rattle.tsc_time.specs.Time.{zero_time}
use Rattle.tsc_time.specs.ValueView.{ValueView, unowned}
use Rattle.tsc_span.specs.Span.{KeyBytes, Cut, before, after, last, point}
use Rattle.tsc_page_nodes.specs.Nodes.{Node, IsSorted, answer_of}
use Rattle.tsc_span.proofs.CutOrder.{Lt, Le, Le-from_Lt, before-after}
use Rattle.tsc_page_tree.specs.Leaves.{nodes_of, start_of, IsLeafAt}
use Rattle.tsc_page_tree.proofs.LeafLists.{read_leaf, leaf_first, parted_at, sorted_from, starts_low, ends_high, all_some, read_subtree}
use Rattle.tsc_page_tree.proofs.LeafKeys.{wholly_below}
use Rattle.tsc_page_tree.proofs.LeafAnswers.{AnswersSoFar, answers_at_first, answers_of_last, answers_at_end, zero_first, zero_below_answer}
use Rattle.tsc_page_tree.proofs.subtrees.value_at.Goals as goal

pub value_at-requires : goal.value_at-requires
value_at-requires g c =
    record {
      subtree = read_subtree g.P.Subtree.nodes g.P.Subtree.IsWhole c.args.subtrees.now
          c.subtree_at.result c.in-Some.subtree.now
          (omega (arith, c.in-Some.ensures.lookup.3.0)) c.in-Some.ensures.lookup.1
          c.requires.subtrees;
    }

pub returns-in-None : goal.returns-in-None
returns-in-None g c =
    let read = g.P.Subtree.nodes in
    let items = c.args.subtrees.now in
    let ls : List (List Node) = map read items in
    let k : KeyBytes = c.args.key.now in
    let p : ℕ = c.subtree_at.result in
    let some = all_some read g.P.Subtree.IsWhole items g.met.P.Subtree.some
    c.requires.subtrees.whole in
    let at = subst (λ (x : Cut). IsLeafAt ls x p) c.at.ensures c.subtree_at.ensures in
    let start = answers_at_first (before k) (after k) (nodes_of (take p ls)) (nodes_of (drop p ls))
    (subst IsSorted (parted_at ls p) c.requires.subtrees.sorted)
    (starts_low ls (before k) p some at) in
    let so_far = subst (λ (ns : List Node). AnswersSoFar ns (nodes_of (drop p ls)) (before k)
    (after k) (before k) (unowned zero_time)) (sym (parted_at ls p)) start in
    let past : length ls ≤ p = omega (arith, c.in-None.ensures.lookup.3, length-map items read) in
    c.unowned.ensures ∙ answers_at_end (nodes_of ls) (nodes_of (drop p ls)) (before k) (after k)
    (before k) (unowned zero_time) (ap nodes_of (drop_all p ls past)) so_far

pub returns-in-Some : goal.returns-in-Some
returns-in-Some g c =
    let read = g.P.Subtree.nodes in
    let items = c.args.subtrees.now in
    let ls : List (List Node) = map read items in
    let k : KeyBytes = c.args.key.now in
    let p : ℕ = c.subtree_at.result in
    let here : p < length items = omega (arith, c.in-Some.ensures.lookup.3.0) in
    let inside : p < length ls = omega (arith, here, length-map items read) in
    let is = read_leaf read items p c.in-Some.subtree.now here c.in-Some.ensures.lookup.1 in
    let first = leaf_first ls p [] inside in
    let some = all_some read g.P.Subtree.IsWhole items g.met.P.Subtree.some
    c.requires.subtrees.whole in
    let sorted = c.requires.subtrees.sorted in
    let at = subst (λ (x : Cut). IsLeafAt ls x p) c.at.ensures c.subtree_at.ensures in
    let start = answers_at_first (before k) (after k) (nodes_of (take p ls)) (nodes_of (drop p ls))
    (subst IsSorted (parted_at ls p) sorted) (starts_low ls (before k) p some at) in
    let so_far = subst (λ (ns : List Node). AnswersSoFar ns (nodes_of (drop p ls)) (before k)
    (after k) (before k) (unowned zero_time)) (sym (parted_at ls p)) start in
    let of_subtree = subst (λ (ns : List Node). AnswersSoFar (nodes_of ls) ns (before k) (after k)
    (before k) (unowned zero_time)) first so_far in
    let behind : List Node = nodes_of (drop (suc p) ls) in
    let in_order : Lt (before k) last = refl in
    let high : Le (after k) (start_of behind) =
    Le-from_Lt (after k) (start_of behind)
    (wholly_below k behind (ends_high ls (before k) p some in_order at)) in
    let last_one = answers_of_last (nodes_of ls) (get_or ls p []) behind (before k) (after k)
    (before k) (unowned zero_time) (subst IsSorted first (sorted_from ls p sorted))
    (before-after k) high of_subtree in
    let answer : ValueView = answer_of (get_or ls p []) (point k) in
    c.value_at.ensures ∙ ap (λ (ns : List Node). answer_of ns (point k)) is ∙
    sym (zero_first answer (zero_below_answer (point k) (get_or ls p []))) ∙ last_one
