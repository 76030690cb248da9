-- The prefix is kept.
use Rattle.std.proofs.Common.{map}
use Rattle.std.specs.Arc.{arc_value}
use Rattle.tsc_page_tree.specs.Leaves.{nodes_of}
use Rattle.tsc_page_tree.proofs.Reported.{reported_start}
use Rattle.tsc_page_tree.proofs.branch.BranchSubtree.start_prefix.Goals as goal

pub returns : goal.returns
returns g c =
    let s = c.args.self.now.aggregate in
    reported_start s.start s.joint s.lazy
    (nodes_of (map g.P.Subtree.nodes (arc_value c.args.self.now.subtrees).items))
    c.requires.whole.reported
