-- A copy of the root stands for the same.
use Rattle.std.proofs.Common.{◌∙◌}
use Rattle.tsc_page_tree.proofs.TreeLists.{counted_copy, seen_copy}
use Rattle.tsc_page_tree.proofs.tree.Tree.try_copy.Goals as goal

pub invariant_of-result : goal.invariant_of-result
invariant_of-result c = counted_copy c.self.inside.root _ c.self.inside.count c.self.inside.bytes
    c.in_ok-try_copy.ensures c.self.invariant

pub returns : goal.returns
returns c = seen_copy c.self.inside.root _ c.self.inside.bytes c.in_ok-try_copy.ensures ∙
    c.self.view_is
