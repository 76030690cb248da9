-- The lazy value is raised everywhere.
use Rattle.std.proofs.Common.{rules}
use Rattle.tsc_page_tree.proofs.leaf.push_down.Goals as goal

pub returns-in-Some : goal.returns-in-Some
returns-in-Some c = search rules
