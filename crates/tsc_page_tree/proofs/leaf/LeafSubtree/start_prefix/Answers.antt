-- The prefix is kept.
use Rattle.std.specs.Arc.{arc_value}
use Rattle.tsc_page_tree.proofs.Reported.{reported_start}
use Rattle.tsc_page_tree.proofs.leaf.LeafSubtree.start_prefix.Goals as goal

pub returns : goal.returns
returns c =
    let s = c.args.self.now.aggregate in
    reported_start s.start s.joint s.lazy (arc_value c.args.self.now.nodes)
    c.requires.whole.reported
