-- A tree tells what its nodes cost.
use Rattle.std.proofs.Common.{ap}
use Rattle.tsc_page_tree.specs.Roots.{TreeView}
use Rattle.tsc_page_tree.proofs.tree.Tree.bytes.Goals as goal

pub returns : goal.returns
returns c = ap (λ (t : TreeView). t.bytes) c.self.view_is
