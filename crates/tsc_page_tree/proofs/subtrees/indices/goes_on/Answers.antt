-- What comes after a subtree begins where the next one does.
use Rattle.std.proofs.Common.{◌≡◌, ◌∙◌, ◌+◌, ◌<◌, sym, ap, ℕ, suc, List, [], map, drop, length, arith}
use Rattle.std.proofs.lemmas.List.{length-map}
use Rattle.tsc_span.specs.Span.{Cut, is_below}
use Rattle.tsc_page_nodes.specs.Nodes.{Node}
use Rattle.tsc_page_tree.specs.Leaves.{nodes_of, start_of}
use Rattle.tsc_page_tree.proofs.LeafLists.{read_leaf, start_at, all_some}
use Rattle.tsc_page_tree.proofs.subtrees.indices.goes_on.Goals as goal

pub returns-in-Some : goal.returns-in-Some
returns-in-Some g c =
    let read = g.P.Subtree.nodes in
    let items = c.args.subtrees.now in
    let ls : List (List Node) = map read items in
    let to : Cut = c.args.to.now in
    let next : ℕ = c.args.index + 1 in
    let here : next < length items = omega (arith, c.in-Some.ensures.lookup.3.0) in
    let inside : next < length ls = omega (arith, here, length-map items read) in
    let is = read_leaf read items next c.in-Some.next.now here c.in-Some.ensures.lookup.1 in
    let start = ap (λ (l : List Node). start_of l) is ∙
    sym (start_at ls (all_some read g.P.Subtree.IsWhole items g.met.P.Subtree.some c.requires.whole)
    next [] inside) in
    let same : next ≡ suc c.args.index = omega arith in
    c.starts_below.ensures ∙ ap (λ (x : Cut). is_below x to) start ∙
    ap (λ (j : ℕ). is_below (start_of (nodes_of (drop j ls))) to) same
