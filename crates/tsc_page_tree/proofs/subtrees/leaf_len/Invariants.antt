-- Proves the loop invariants of `leaf_len`. How many nodes a leaf has among those of subtrees;
-- `Err` tells how many places behind the last leaf this is.
use Rattle.tsc_page_tree.proofs.SubtreeSizes.{SizesSoFar}
use Rattle.tsc_page_tree.proofs.subtrees.leaf_len.Given as goal

-- the place that is left lies behind the leaves of the subtrees so far
abbrev pub invariant-loop-subtree : goal.invariant-loop-subtree
invariant-loop-subtree g l = SizesSoFar g.P.Subtree.sizes l.subtrees l.fn.index
    l.subtree-index l.index
