-- The span lies in one subtree, or goes on beyond it.
use Rattle.std.proofs.Common.{◌∙◌, ◌<◌, ap, sym, subst, ℕ, suc, List, map, drop, length, arith}
use Rattle.std.proofs.lemmas.List.{length-map}
use Rattle.std.proofs.lemmas.Result.{IfOk-weaker}
use Rattle.tsc_span.specs.Span.{Cut, between}
use Rattle.tsc_span.specs.Cuts.{cut_of}
use Rattle.tsc_page_nodes.specs.Nodes.{Node}
use Rattle.tsc_page_tree.specs.Leaves.{nodes_of, start_of, IsLeafAt}
use Rattle.tsc_span.proofs.CutOrder.{Le}
use Rattle.tsc_page_tree.proofs.LeafLists.{all_some, is_subtree}
use Rattle.tsc_page_tree.proofs.LeafRaises.{raises_start, raises_last, raised_subtree}
use Rattle.tsc_page_tree.proofs.subtrees.raise_between.Goals as goal

pub raise_between-requires-clause-subtree : goal.raise_between-requires-clause-subtree
raise_between-requires-clause-subtree g c =
    is_subtree g.P.Subtree.nodes g.P.Subtree.IsWhole c.args.subtrees.now c.subtree_at-first.result
    c.index-subtrees-first.result
    (omega (arith, c.if-first-subtrees.false)) c.requires.subtrees

pub returns-else-goes_on-clause-raised : goal.returns-else-goes_on-clause-raised
returns-else-goes_on-clause-raised g c =
    let read = g.P.Subtree.nodes in
    let items = c.args.subtrees.now in
    let ls : List (List Node) = map read items in
    let from : Cut = cut_of c.args.from in
    let to : Cut = cut_of c.args.to in
    let p : ℕ = c.subtree_at-first.result in
    let here : p < length items = omega (arith, c.if-first-subtrees.false) in
    let inside : p < length ls = omega (arith, here, length-map items read) in
    let some = all_some read g.P.Subtree.IsWhole items g.met.P.Subtree.some
    c.requires.subtrees.whole in
    let at = subst (λ (x : Cut). IsLeafAt ls x p) c.new.ensures c.subtree_at-first.ensures in
    let start = raises_start ls from to c.args.value p some c.requires.subtrees.sorted
    c.requires.order at in
    let high = subst (λ (x : Cut). Le x (start_of (nodes_of (drop (suc p) ls)))) c.new-end.ensures
    (sym c.goes_on.ensures ∙ c.if-goes_on.false) in
    IfOk-weaker c.raise_between.result _ _ (λ u h.
    ap nodes_of (raised_subtree read items p c.index-subtrees-first.result c.raise_between.new.self
    (between from to) c.args.value here h)
    ∙ raises_last ls ls from to from c.args.value p some c.requires.subtrees.sorted
    inside start high)
    c.raise_between.ensures.raised
