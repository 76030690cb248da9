-- Proves the loop invariants of `joint_below`. The joint value of the keys and gaps below a cut of
-- the subtrees from a place on.
use Rattle.std.proofs.Common.{[], map, drop}
use Rattle.tsc_span.specs.Span.{before}
use Rattle.tsc_page_tree.specs.Leaves.{nodes_of}
use Rattle.tsc_page_tree.proofs.LeafAnswers.{AnswersSoFar}
use Rattle.tsc_page_tree.proofs.subtrees.joints.joint_below.Given as goal

-- the best so far, with the answer of the subtrees that are left, is the answer of all from the
-- first one on
abbrev pub invariant-loop-index : goal.invariant-loop-index
invariant-loop-index g l = AnswersSoFar (nodes_of (drop l.fn.start (map g.P.Subtree.nodes
    l.fn.subtrees)))
    (nodes_of (drop l.index (map g.P.Subtree.nodes l.fn.subtrees))) (before []) l.fn.to
    (before []) l.best
