-- The subtree in which the cut falls tells, or else the next one.
use Rattle.std.proofs.Common.{ℕ, suc, [], map, get_or, List, arith}
use Rattle.std.specs.Prelude.{option_map}
use Rattle.tsc_span.specs.Span.{Cut}
use Rattle.tsc_page_nodes.specs.Nodes.{Node}
use Rattle.tsc_page_tree.specs.Leaves.{nodes_of}
use Rattle.tsc_page_tree.proofs.LeafLists.{all_some}
use Rattle.tsc_page_tree.proofs.KeysAbove.{node_above, above_in_subtree, found_first, found_next, at_index}
use Rattle.tsc_page_tree.proofs.subtrees.key_above.Goals as goal

pub returns-in-Some : goal.returns-in-Some
returns-in-Some g c =
    let read = g.P.Subtree.nodes in
    let items = c.args.subtrees.now in
    let ls : List (List Node) = map read items in
    let p : ℕ = c.subtree_at-index.result in
    let cut : Cut = c.args.cut.now in
    let reported = above_in_subtree ls cut p
    (all_some read g.P.Subtree.IsWhole items g.met.P.Subtree.some c.requires.subtrees.whole)
    c.requires.subtrees.sorted c.subtree_at-index.ensures in
    found_first (node_above cut (nodes_of ls)) (node_above cut (get_or ls p []))
    (node_above cut (get_or ls (suc p) [])) c.in-Some.key.now reported c.in-Some.ensures

pub returns-in-None : goal.returns-in-None
returns-in-None g c =
    let read = g.P.Subtree.nodes in
    let items = c.args.subtrees.now in
    let ls : List (List Node) = map read items in
    let p : ℕ = c.subtree_at-index.result in
    let cut : Cut = c.args.cut.now in
    let reported = above_in_subtree ls cut p
    (all_some read g.P.Subtree.IsWhole items g.met.P.Subtree.some c.requires.subtrees.whole)
    c.requires.subtrees.sorted c.subtree_at-index.ensures in
    let next = at_index cut ls (suc p) (option_map (λ k. k.now) c.key_in-in-None.result)
    c.key_in-in-None.ensures (omega arith) in
    found_next (node_above cut (nodes_of ls)) (node_above cut (get_or ls p []))
    (node_above cut (get_or ls (suc p) [])) reported c.in-None.ensures
    (option_map (λ k. k.now) c.key_in-in-None.result) next
