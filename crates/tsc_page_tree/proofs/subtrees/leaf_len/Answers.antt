-- A subtree has the place, or it lies behind its leaves.
use Rattle.tsc_page_tree.proofs.SubtreeSizes.{size_reported, size_passed}
use Rattle.tsc_page_tree.proofs.subtrees.leaf_len.Goals as goal

pub returns-in-Ok : goal.returns-in-Ok
returns-in-Ok g c = size_reported g.P.Subtree.sizes c.args.subtrees.now
    c.loop-subtree.subtree-index c.args.index
    c.loop-subtree.index c.in-Ok.len c.subtree-item.result c.loop-subtree-test.true
    c.subtree-item.is
    c.in-Ok.ensures c.loop-subtree.invariant

pub loop-subtree-preserved : goal.loop-subtree-preserved
loop-subtree-preserved g c = size_passed g.P.Subtree.sizes c.args.subtrees.now
    c.loop-subtree.subtree-index
    c.args.index c.loop-subtree.index c.in-Err.rest c.subtree-item.result c.loop-subtree-test.true
    c.subtree-item.is c.in-Err.ensures c.loop-subtree.invariant
