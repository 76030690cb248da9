-- The nodes are counted.
use Rattle.std.proofs.Common.{◌∙◌, ap, length}
use Rattle.tsc_page_tree.specs.Roots.{TreeView}
use Rattle.tsc_page_tree.proofs.tree.Tree.len.Goals as goal

pub returns : goal.returns
returns c = c.self.invariant.count ∙ ap (λ (t : TreeView). length t.nodes) c.self.view_is
