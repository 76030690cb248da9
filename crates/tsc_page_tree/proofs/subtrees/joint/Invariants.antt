-- Proves the loop invariants of `joint`. The joint value of all keys and gaps of subtrees.
use Rattle.std.proofs.Common.{map, drop}
use Rattle.tsc_page_tree.specs.Leaves.{nodes_of}
use Rattle.tsc_page_tree.proofs.AllJoint.{JointSoFar}
use Rattle.tsc_page_tree.proofs.subtrees.joint.Given as goal

-- the best so far with the joint value of the subtrees that are left is that of all
abbrev pub invariant-loop-subtree : goal.invariant-loop-subtree
invariant-loop-subtree g l = JointSoFar (nodes_of (map g.P.Subtree.nodes l.subtrees))
    (nodes_of (drop l.subtree-index (map g.P.Subtree.nodes l.subtrees))) l.best
