-- The joint value of one subtree after another.
use Rattle.std.proofs.Common.{sym, subst, ◌+◌, List, map, drop}
use Rattle.tsc_time.specs.ValueView.{ValueView}
use Rattle.tsc_page_nodes.specs.Nodes.{Node}
use Rattle.tsc_page_tree.specs.Leaves.{nodes_of}
use Rattle.tsc_page_tree.proofs.AllJoint.{JointSoFar, joint_at_first, joint_of_subtree}
use Rattle.tsc_page_tree.proofs.subtrees.joint.Goals as goal

pub loop-subtree-init : goal.loop-subtree-init
loop-subtree-init g c =
    let all : List Node = nodes_of (map g.P.Subtree.nodes c.args.subtrees.now) in
    subst (λ (w : ValueView). JointSoFar all all w) (sym c.unowned-best.ensures)
    (joint_at_first all)

pub loop-subtree-preserved : goal.loop-subtree-preserved
loop-subtree-preserved g c =
    let read = g.P.Subtree.nodes in
    let items = c.args.subtrees.now in
    let i = c.loop-subtree.subtree-index in
    let more = joint_of_subtree read items i c.subtree-item.result c.loop-subtree.best
    c.joint.result
    c.requires.subtrees.sorted c.loop-subtree-test.true c.subtree-item.is c.joint.ensures
    c.loop-subtree.invariant in
    subst (λ (w : ValueView). JointSoFar (nodes_of (map read items))
    (nodes_of (drop (i + 1) (map read items))) w) (sym c.raise.ensures.joint) more
