-- Proves the loop invariants of `search`. Finds a subtree as `subtree_at` does, by a look at every
-- eighth one.
use Rattle.std.proofs.Common.{◌≤◌, ◌-◌, map}
use Rattle.tsc_page_tree.specs.Leaves.{IsNotAbove}
use Rattle.tsc_page_tree.proofs.subtrees.indices.search.Given as goal

-- the subtree before the next one doesn't begin above the cut
abbrev pub invariant-loop-next : goal.invariant-loop-next
invariant-loop-next g l = (1 ≤ l.next) × IsNotAbove (map g.P.Subtree.nodes l.subtrees)
    l.cut (l.next - 1)
