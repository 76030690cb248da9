-- The subtrees behind the first one answer, and this one joins them.
use Rattle.std.proofs.Common.{◌≡◌, ◌∙◌, ◌+◌, ◌<◌, ap, sym, subst, ℕ, suc, List, [], ◌∷◌, map, get_or, take, drop, length, arith}
use Rattle.std.proofs.lemmas.List.{length-map}
use Rattle.tsc_time.specs.Time.{zero_time}
use Rattle.tsc_time.specs.ValueView.{ValueView, unowned}
use Rattle.tsc_time.specs.Joint.{joint}
use Rattle.tsc_span.specs.Span.{Cut, before, last, between}
use Rattle.tsc_page_nodes.specs.Nodes.{Node, IsSorted, answer_of}
use Rattle.tsc_page_tree.specs.Leaves.{nodes_of, IsLeafAt}
use Rattle.tsc_span.proofs.CutOrder.{Lt, Le_Lt-chain}
use Rattle.tsc_page_nodes.proofs.Cuts.{lowest}
use Rattle.tsc_page_tree.proofs.Joins.{up_to_last}
use Rattle.tsc_page_tree.proofs.LeafLists.{read_leaf, leaf_first, parted_at, sorted_from, starts_low, ends_high, all_some, read_subtree}
use Rattle.tsc_page_tree.proofs.LeafAnswers.{AnswersSoFar, answers_at_first, answers_go_on, joint-swap, zero_first, zero_below_answer}
use Rattle.tsc_page_tree.proofs.subtrees.joints.joint_beyond.Goals as goal

pub joint_below-best-requires-clause-order : goal.joint_below-best-requires-clause-order
joint_below-best-requires-clause-order g c =
    Le_Lt-chain (before []) c.args.from.now c.args.to.now (lowest c.args.from.now) c.requires.order

pub joined-requires-clause-subtree : goal.joined-requires-clause-subtree
joined-requires-clause-subtree g c =
    read_subtree g.P.Subtree.nodes g.P.Subtree.IsWhole c.args.subtrees.now c.args.first
    c.index-subtrees-first.result
    c.requires.goes.bound c.index-subtrees-first.is c.requires.subtrees

pub joined-requires-clause-order : goal.joined-requires-clause-order
joined-requires-clause-order g c =
    subst (λ (x : Cut). Lt c.args.from.now x) (sym c.new-last.ensures)
    (up_to_last c.args.from.now c.args.to.now c.requires.order)

pub returns : goal.returns
returns g c =
    let read = g.P.Subtree.nodes in
    let items = c.args.subtrees.now in
    let ls : List (List Node) = map read items in
    let from : Cut = c.args.from.now in
    let to : Cut = c.args.to.now in
    let p : ℕ = c.args.first in
    let inside : p < length ls = omega (arith, c.requires.goes.bound, length-map items read) in
    let is = read_leaf read items p c.index-subtrees-first.result c.requires.goes.bound
    c.index-subtrees-first.is in
    let first = leaf_first ls p [] inside in
    let sorted = c.requires.subtrees.sorted in
    let some = all_some read g.P.Subtree.IsWhole items g.met.P.Subtree.some
    c.requires.subtrees.whole in
    let at : IsLeafAt ls from p = c.requires.goes.first in
    let behind = nodes_of (drop (suc p) ls) in
    let start = answers_at_first from to (nodes_of (take p ls)) (nodes_of (drop p ls))
    (subst IsSorted (parted_at ls p) sorted) (starts_low ls from p some at) in
    let so_far = subst (λ (ns : List Node). AnswersSoFar ns (nodes_of (drop p ls)) from to from
    (unowned zero_time)) (sym (parted_at ls p)) start in
    let here = subst (λ (ns : List Node). AnswersSoFar (nodes_of ls) ns from to from
    (unowned zero_time)) first so_far in
    let more = answers_go_on (nodes_of ls) (get_or ls p []) behind from to from (unowned zero_time)
    (subst IsSorted first (sorted_from ls p sorted))
    (ends_high ls from p some (up_to_last from to c.requires.order) at) c.requires.goes.beyond
    here in
    let answer : ValueView = answer_of (get_or ls p []) (between from last) in
    let rest : ValueView = answer_of behind (between (before []) to) in
    let next : p + 1 ≡ suc p = omega arith in
    let best = c.joint_below-best.ensures ∙
    ap (λ (j : ℕ). answer_of (nodes_of (drop j ls)) (between (before []) to)) next in
    c.joined.ensures ∙ ap (λ (w : ValueView). joint w
    (answer_of (read c.index-subtrees-first.result) (between from c.new-last.result) ∷ [])) best
    ∙ ap (λ (x : Cut). joint rest (answer_of (read c.index-subtrees-first.result) (between from x) ∷
    [])) c.new-last.ensures
    ∙ ap (λ (ns : List Node). joint rest (answer_of ns (between from last) ∷ [])) is
    ∙ joint-swap rest answer
    ∙ ap (λ (w : ValueView). joint w (rest ∷ []))
    (sym (zero_first answer (zero_below_answer (between from last) (get_or ls p []))))
    ∙ more.answers
