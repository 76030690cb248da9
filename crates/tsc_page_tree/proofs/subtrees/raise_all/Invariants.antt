-- Proves the loop invariants of `raise_all`. Ratchets a value into all keys and gaps of subtrees.
use Rattle.std.proofs.Common.{◌≡◌, map}
use Rattle.std.specs.List.{All}
use Rattle.tsc_page_tree.proofs.SubtreeLoops.{AreRaised}
use Rattle.tsc_page_tree.proofs.subtrees.raise_all.Given as goal

-- the subtrees so far are raised
abbrev pub invariant-loop-index : goal.invariant-loop-index
invariant-loop-index g l = AreRaised g.P.Subtree.nodes l.value l.initial.subtrees
    l.subtrees l.index ×
    All g.P.Subtree.IsWhole l.subtrees × (map g.P.Subtree.sizes l.subtrees ≡ map g.P.Subtree.sizes
    l.initial.subtrees)
