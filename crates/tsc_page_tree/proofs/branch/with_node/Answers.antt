-- Both branches together are in order.
use Rattle.std.proofs.Common.{subst, map, ◌++◌}
use Rattle.tsc_page_nodes.specs.Nodes.{IsSorted}
use Rattle.tsc_page_tree.specs.Leaves.{nodes_of}
use Rattle.tsc_page_tree.specs.Trees.{items_in}
use Rattle.tsc_page_tree.proofs.SubtreeLists.{made_sorted}
use Rattle.tsc_page_tree.proofs.branch.with_node.Goals as goal

pub pair-requires-clause-sorted : goal.pair-requires-clause-sorted
pair-requires-clause-sorted g c =
    let read = g.P.Subtree.nodes in
    subst (λ o. IsSorted (nodes_of (map read c.grow.new.subtrees.items) ++
    nodes_of (map read (items_in o)))) c.in-Some.is
    (made_sorted (nodes_of (map read c.args.subtrees.items)) _ c.args.key.now
    c.requires.subtrees.sorted
    c.in_ok-upper.ensures.made)
