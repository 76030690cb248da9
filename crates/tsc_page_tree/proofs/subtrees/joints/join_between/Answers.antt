-- Mostly the span stops in the subtree in which it starts.
use Rattle.std.proofs.Common.{◌∙◌, ◌<◌, ◌≤◌, ap, sym, subst, ℕ, suc, List, [], map, get_or, take, drop, length, arith}
use Rattle.std.proofs.lemmas.List.{length-map, drop_all}
use Rattle.tsc_time.specs.Time.{zero_time}
use Rattle.tsc_time.specs.ValueView.{ValueView, unowned}
use Rattle.tsc_span.specs.Span.{Cut, between}
use Rattle.tsc_page_nodes.specs.Nodes.{Node, IsSorted, answer_of}
use Rattle.tsc_page_tree.specs.Leaves.{nodes_of, start_of, IsLeafAt}
use Rattle.tsc_span.proofs.CutOrder.{Le}
use Rattle.tsc_page_tree.proofs.LeafLists.{read_leaf, leaf_first, parted_at, sorted_from, starts_low, all_some, read_subtree}
use Rattle.tsc_page_tree.proofs.LeafAnswers.{AnswersSoFar, answers_at_first, answers_of_last, answers_at_end, zero_first, zero_below_answer}
use Rattle.tsc_page_tree.proofs.subtrees.joints.join_between.Goals as goal

pub returns-then-index-subtrees : goal.returns-then-index-subtrees
returns-then-index-subtrees g c =
    let read = g.P.Subtree.nodes in
    let items = c.args.subtrees.now in
    let ls : List (List Node) = map read items in
    let from : Cut = c.args.from.now in
    let to : Cut = c.args.to.now in
    let p : ℕ = c.subtree_at-index.result in
    let some = all_some read g.P.Subtree.IsWhole items g.met.P.Subtree.some
    c.requires.subtrees.whole in
    let at : IsLeafAt ls from p = c.subtree_at-index.ensures in
    let start = answers_at_first from to (nodes_of (take p ls)) (nodes_of (drop p ls))
    (subst IsSorted (parted_at ls p) c.requires.subtrees.sorted) (starts_low ls from p some at) in
    let so_far = subst (λ (ns : List Node). AnswersSoFar ns (nodes_of (drop p ls)) from to from
    (unowned zero_time)) (sym (parted_at ls p)) start in
    let past : length ls ≤ p = omega (arith, c.if-index-subtrees.true, length-map items read) in
    c.unowned.ensures ∙ answers_at_end (nodes_of ls) (nodes_of (drop p ls)) from to from
    (unowned zero_time) (ap nodes_of (drop_all p ls past)) so_far

pub join_between-requires-clause-subtree : goal.join_between-requires-clause-subtree
join_between-requires-clause-subtree g c =
    read_subtree g.P.Subtree.nodes g.P.Subtree.IsWhole c.args.subtrees.now c.subtree_at-index.result
    c.index-subtrees-index.result
    (omega (arith, c.if-index-subtrees.false)) c.index-subtrees-index.is c.requires.subtrees

pub returns-else-goes_on : goal.returns-else-goes_on
returns-else-goes_on g c =
    let read = g.P.Subtree.nodes in
    let items = c.args.subtrees.now in
    let ls : List (List Node) = map read items in
    let from : Cut = c.args.from.now in
    let to : Cut = c.args.to.now in
    let p : ℕ = c.subtree_at-index.result in
    let here : p < length items = omega (arith, c.if-index-subtrees.false) in
    let inside : p < length ls = omega (arith, here, length-map items read) in
    let is = read_leaf read items p c.index-subtrees-index.result here c.index-subtrees-index.is in
    let first = leaf_first ls p [] inside in
    let some = all_some read g.P.Subtree.IsWhole items g.met.P.Subtree.some
    c.requires.subtrees.whole in
    let sorted = c.requires.subtrees.sorted in
    let at : IsLeafAt ls from p = c.subtree_at-index.ensures in
    let start = answers_at_first from to (nodes_of (take p ls)) (nodes_of (drop p ls))
    (subst IsSorted (parted_at ls p) sorted) (starts_low ls from p some at) in
    let so_far = subst (λ (ns : List Node). AnswersSoFar ns (nodes_of (drop p ls)) from to from
    (unowned zero_time)) (sym (parted_at ls p)) start in
    let of_subtree = subst (λ (ns : List Node). AnswersSoFar (nodes_of ls) ns from to from
    (unowned zero_time)) first so_far in
    let high : Le to (start_of (nodes_of (drop (suc p) ls))) = sym c.goes_on.ensures ∙
    c.if-goes_on.false in
    let last_one = answers_of_last (nodes_of ls) (get_or ls p []) (nodes_of (drop (suc p) ls)) from
    to from (unowned zero_time) (subst IsSorted first (sorted_from ls p sorted))
    c.requires.order high of_subtree in
    let answer : ValueView = answer_of (get_or ls p []) (between from to) in
    c.join_between.ensures ∙ ap (λ (ns : List Node). answer_of ns (between from to)) is ∙
    sym (zero_first answer (zero_below_answer (between from to) (get_or ls p []))) ∙ last_one
