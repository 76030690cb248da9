-- A span leaves something out only at one of its cuts.
use Rattle.std.proofs.Common.{rules}
use Rattle.tsc_page_tree.proofs.subtrees.joints.leaves_out.Goals as goal

pub returns-else-is_below_last : goal.returns-else-is_below_last
returns-else-is_below_last g c = search rules
