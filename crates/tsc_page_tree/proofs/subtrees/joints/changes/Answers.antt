-- A value that changes nothing is told as that.
use Rattle.std.proofs.Common.{rules}
use Rattle.tsc_page_tree.proofs.Skips.{left_as_it_is}
use Rattle.tsc_page_tree.proofs.subtrees.joints.changes.Goals as goal

pub returns : goal.returns
returns c = search (rules, left_as_it_is)
