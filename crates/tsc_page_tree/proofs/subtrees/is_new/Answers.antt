-- A key is new where it is in the subtree in which it falls.
use Rattle.std.proofs.Common.{◌∙◌, ◌<◌, ap, sym, subst, refl, ℕ, List, [], map, get_or, take, drop, suc, length, arith}
use Rattle.std.specs.Prelude.{not}
use Rattle.std.proofs.lemmas.List.{length-map}
use Rattle.tsc_span.specs.Span.{KeyBytes, Cut, before}
use Rattle.tsc_page_model.specs.PageView.{is_in}
use Rattle.tsc_page_nodes.specs.Nodes.{Node, node_keys}
use Rattle.tsc_page_tree.specs.Leaves.{nodes_of, IsLeafAt}
use Rattle.tsc_page_tree.proofs.LeafLists.{read_leaf, StandsAround, stands_around, all_some, read_subtree}
use Rattle.tsc_page_tree.proofs.LeafKeys.{known_in_subtree, wholly_below}
use Rattle.tsc_page_tree.proofs.subtrees.is_new.Goals as goal

pub is_new-requires : goal.is_new-requires
is_new-requires g c =
    record {
      subtree = read_subtree g.P.Subtree.nodes g.P.Subtree.IsWhole c.args.subtrees.now
          c.subtree_at.result c.in-Some.subtree.now
          (omega (arith, c.in-Some.ensures.lookup.3.0)) c.in-Some.ensures.lookup.1
          c.requires.subtrees;
    }

pub returns-in-Some : goal.returns-in-Some
returns-in-Some g c =
    let read = g.P.Subtree.nodes in
    let items = c.args.subtrees.now in
    let ls : List (List Node) = map read items in
    let k : KeyBytes = c.args.key.now in
    let p : ℕ = c.subtree_at.result in
    let here : p < length items = omega (arith, c.in-Some.ensures.lookup.3.0) in
    let inside : p < length ls = omega (arith, here, length-map items read) in
    let is = read_leaf read items p c.in-Some.subtree.now here c.in-Some.ensures.lookup.1 in
    let at = subst (λ (x : Cut). IsLeafAt ls x p) c.at.ensures c.subtree_at.ensures in
    let at_key = subst (λ (b : KeyBytes). IsLeafAt ls (before b) p) c.search.ensures at in
    let around : StandsAround ls p (before k) =
    stands_around ls p (before k)
    (all_some read g.P.Subtree.IsWhole items g.met.P.Subtree.some c.requires.subtrees.whole)
    c.requires.subtrees.sorted inside refl at_key in
    let reported = known_in_subtree k (nodes_of (take p ls)) (get_or ls p [])
    (nodes_of (drop (suc p) ls))
    around.sorted around.some around.low
    (wholly_below k (nodes_of (drop (suc p) ls)) around.high) in
    c.is_new.ensures ∙ ap (λ (ns : List Node). not (is_in k (node_keys ns))) is ∙
    ap not (sym reported) ∙ ap (λ (ns : List Node). not (is_in k (node_keys ns))) (sym around.whole)
