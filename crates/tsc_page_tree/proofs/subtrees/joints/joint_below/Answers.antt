-- One subtree after another, up to the one in which the span stops.
use Rattle.std.proofs.Common.{◌≡◌, ◌∙◌, ◌+◌, ◌<◌, ◌≤◌, ap, sym, subst, ℕ, suc, List, [], ◌∷◌, map, get_or, drop, length, rules, arith}
use Rattle.std.proofs.lemmas.List.{length-map, drop_all}
use Rattle.tsc_time.specs.Time.{zero_time}
use Rattle.tsc_time.specs.ValueView.{ValueView, unowned}
use Rattle.tsc_time.specs.Joint.{joint}
use Rattle.tsc_time.proofs.RatchetOrder.{IsAtMost-itself}
use Rattle.tsc_span.specs.Span.{Cut, before, last, between}
use Rattle.tsc_page_nodes.specs.Nodes.{Node, IsSorted, answer_of}
use Rattle.tsc_page_tree.specs.Leaves.{nodes_of, start_of}
use Rattle.tsc_span.proofs.CutOrder.{Lt, Le}
use Rattle.tsc_page_tree.proofs.LeafLists.{read_leaf, leaf_first, sorted_from, lowest_below, all_some, read_subtree}
use Rattle.tsc_page_tree.proofs.LeafAnswers.{AnswersSoFar, answers_of_last, answers_go_on, answers_at_end, zero_first, zero_below_answer}
use Rattle.tsc_page_tree.proofs.subtrees.joints.joint_below.Goals as goal

pub loop-index-init : goal.loop-index-init
loop-index-init g c =
    let left : List Node = nodes_of (drop c.args.start (map g.P.Subtree.nodes
    c.args.subtrees.now)) in
    let to : Cut = c.args.to.now in
    let start : AnswersSoFar left left (before []) to (before []) (unowned zero_time) = record {
      zero_below = IsAtMost-itself (unowned zero_time);
      answers = zero_first (answer_of left (between (before []) to))
          (zero_below_answer (between (before []) to) left);
    } in
    subst (λ (w : ValueView). AnswersSoFar left left (before []) to (before []) w)
    (sym c.unowned-best.ensures) start

pub joined-requires-clause-subtree : goal.joined-requires-clause-subtree
joined-requires-clause-subtree g c =
    read_subtree g.P.Subtree.nodes g.P.Subtree.IsWhole c.args.subtrees.now c.loop-index.index
    c.index-subtrees-index.result
    (omega (arith, c.loop-index-test.true)) c.index-subtrees-index.is c.requires.subtrees

pub joined-requires-clause-order : goal.joined-requires-clause-order
joined-requires-clause-order g c = search rules

pub returns-then-not-goes_on : goal.returns-then-not-goes_on
returns-then-not-goes_on g c =
    let read = g.P.Subtree.nodes in
    let items = c.args.subtrees.now in
    let ls : List (List Node) = map read items in
    let all : List Node = nodes_of (drop c.args.start ls) in
    let to : Cut = c.args.to.now in
    let p : ℕ = c.loop-index.index in
    let here : p < length items = omega (arith, c.loop-index-test.true) in
    let inside : p < length ls = omega (arith, here, length-map items read) in
    let is = read_leaf read items p c.index-subtrees-index.result here c.index-subtrees-index.is in
    let first = leaf_first ls p [] inside in
    let so_far = subst (λ (ns : List Node). AnswersSoFar all ns (before []) to (before [])
    c.loop-index.best) first c.loop-index.invariant in
    let high : Le to (start_of (nodes_of (drop (suc p) ls))) = sym c.goes_on.ensures ∙
    c.if-not-goes_on.true in
    let last_one = answers_of_last all (get_or ls p []) (nodes_of (drop (suc p) ls)) (before []) to
    (before []) c.loop-index.best
    (subst IsSorted first (sorted_from ls p c.requires.subtrees.sorted)) c.requires.order high
    so_far in
    c.joined.ensures ∙ ap (λ (x : Cut). joint c.loop-index.best
    (answer_of (read c.index-subtrees-index.result) (between x to) ∷ [])) c.new-least.ensures
    ∙ ap (λ (ns : List Node). joint c.loop-index.best (answer_of ns (between (before []) to) ∷ []))
    is ∙ last_one

pub loop-index-preserved : goal.loop-index-preserved
loop-index-preserved g c =
    let read = g.P.Subtree.nodes in
    let items = c.args.subtrees.now in
    let ls : List (List Node) = map read items in
    let all : List Node = nodes_of (drop c.args.start ls) in
    let to : Cut = c.args.to.now in
    let p : ℕ = c.loop-index.index in
    let here : p < length items = omega (arith, c.loop-index-test.true) in
    let inside : p < length ls = omega (arith, here, length-map items read) in
    let is = read_leaf read items p c.index-subtrees-index-in-loop-index.result here
    c.index-subtrees-index-in-loop-index.is in
    let first = leaf_first ls p [] inside in
    let so_far = subst (λ (ns : List Node). AnswersSoFar all ns (before []) to (before [])
    c.loop-index.best) first c.loop-index.invariant in
    let goes : Lt (start_of (nodes_of (drop (suc p) ls))) to = sym c.goes_on.ensures ∙
    c.if-not-goes_on.false in
    let sorted = c.requires.subtrees.sorted in
    let some = all_some read g.P.Subtree.IsWhole items g.met.P.Subtree.some
    c.requires.subtrees.whole in
    let more = answers_go_on all (get_or ls p []) (nodes_of (drop (suc p) ls)) (before []) to
    (before []) c.loop-index.best (subst IsSorted first (sorted_from ls p sorted))
    (lowest_below ls some sorted p) goes so_far in
    let answer = c.joint.ensures ∙
    ap (λ (ns : List Node). answer_of ns (between (before []) last)) is in
    let best = c.raise.ensures.joint ∙
    ap (λ (w : ValueView). joint c.loop-index.best (w ∷ [])) answer in
    let next : suc p ≡ p + 1 = omega arith in
    subst (λ (j : ℕ). AnswersSoFar all (nodes_of (drop j ls)) (before []) to (before [])
    c.raise.new.self) next
    (subst (λ (w : ValueView). AnswersSoFar all (nodes_of (drop (suc p) ls)) (before []) to
    (before []) w) (sym best) more)

pub returns : goal.returns
returns g c =
    let ls : List (List Node) = map g.P.Subtree.nodes c.args.subtrees.now in
    let past : length ls ≤ c.loop-index.index =
    omega (arith, c.loop-index-test.false, length-map c.args.subtrees.now g.P.Subtree.nodes) in
    answers_at_end (nodes_of (drop c.args.start ls)) (nodes_of (drop c.loop-index.index ls))
    (before []) c.args.to.now (before []) c.loop-index.best
    (ap nodes_of (drop_all c.loop-index.index ls past)) c.loop-index.invariant
