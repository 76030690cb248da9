-- Proves the loop invariants of `raise_beyond`. Ratchets a value as `raise_between` does, where the
-- span goes on beyond the subtree in which it starts.
use Rattle.std.proofs.Common.{[], map}
use Rattle.std.specs.List.{All}
use Rattle.tsc_span.specs.Span.{before}
use Rattle.tsc_span.specs.Cuts.{cut_of}
use Rattle.tsc_page_tree.proofs.LeafRaises.{RaisesSoFar}
use Rattle.tsc_page_tree.proofs.subtrees.raise_beyond.Given as goal

-- the subtrees so far are raised
abbrev pub invariant-loop-index : goal.invariant-loop-index
invariant-loop-index g l =
    RaisesSoFar (map g.P.Subtree.nodes l.fn.subtrees) (map g.P.Subtree.nodes l.subtrees)
    (cut_of l.from) l.to
    (before []) l.value l.index
    × All g.P.Subtree.IsWhole l.subtrees
