-- Subtrees begin where the first one does.
use Rattle.std.proofs.Common.{◌∙◌, ◌<◌, sym, ap, subst, List, [], map, length, arith}
use Rattle.std.proofs.lemmas.List.{length-map}
use Rattle.tsc_span.specs.Prefixes.{IsCutPrefix}
use Rattle.tsc_page_nodes.specs.Nodes.{Node}
use Rattle.tsc_page_tree.specs.Leaves.{start_of}
use Rattle.tsc_page_tree.proofs.LeafLists.{read_leaf, start_at, all_some}
use Rattle.tsc_page_tree.proofs.subtrees.start_prefix.Goals as goal

pub returns-in-Some : goal.returns-in-Some
returns-in-Some g c =
    let read = g.P.Subtree.nodes in
    let items = c.args.subtrees.now in
    let here : 0 < length items = omega (arith, c.in-Some.ensures.item.3.0) in
    let is = read_leaf read items 0 c.in-Some.first.now here c.in-Some.ensures.item.1 in
    subst (IsCutPrefix c.start_prefix.result)
    (ap (λ (l : List Node). start_of l) is ∙
    sym (start_at (map read items)
    (all_some read g.P.Subtree.IsWhole items g.met.P.Subtree.some c.requires.whole) 0 []
    (omega (arith, here, length-map items read)))) c.start_prefix.ensures
