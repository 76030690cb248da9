-- Proves the loop invariants of `stride_at`. The last of every eighth place, from the first one on,
-- at which no subtree begins above a cut.
use Rattle.std.proofs.Common.{◌≤◌, ◌-◌, map, length}
use Rattle.tsc_page_tree.specs.Leaves.{IsNotAbove}
use Rattle.tsc_page_tree.proofs.subtrees.indices.stride_at.Given as goal

-- the place found so far isn't above
abbrev pub invariant-loop-index : goal.invariant-loop-index
invariant-loop-index g l = (l.index ≤ length l.subtrees) ×
    IsNotAbove (map g.P.Subtree.nodes l.subtrees) l.cut l.low

-- fewer subtrees are left
abbrev pub decreases-loop-index : goal.decreases-loop-index
decreases-loop-index g l = length l.subtrees - l.index
