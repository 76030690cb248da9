-- Proves the loop invariants of `raise_values`. Ratchets a value into the keys and gaps between two
-- cuts, whose keys may stand at places that are told.
use Rattle.std.proofs.Common.{◌≡◌, length}
use Rattle.tsc_page_nodes.specs.Nodes.{paired}
use Rattle.tsc_page_nodes.proofs.Seen.{IsAt}
use Rattle.tsc_page_nodes.proofs.RaisedNodes.{ChangesIndices, key_raised, gap_raised}
use Rattle.tsc_page_nodes.proofs.nodes.changes.raise_values.Given as goal

-- the keys so far are raised
abbrev pub invariant-loop-index : goal.invariant-loop-index
invariant-loop-index l =
    IsAt l.initial.index-iterator.start l.index-iterator.start l.index-iterator.end
    (length l.values.items)
    × (l.index-iterator.end ≡ l.initial.index-iterator.end)
    × (length l.keys ≡ length l.values.items)
    × ChangesIndices (key_raised l.value) (paired l.keys l.initial.values.items)
    (paired l.keys l.values.items) l.initial.index-iterator.start l.index-iterator.start

-- and then the gaps so far
abbrev pub invariant-loop-index-2 : goal.invariant-loop-index-2
invariant-loop-index-2 l =
    IsAt l.initial.index-iterator.start l.index-iterator.start l.index-iterator.end
    (length l.values.items)
    × (l.index-iterator.end ≡ l.initial.index-iterator.end)
    × (length l.keys ≡ length l.values.items)
    × ChangesIndices (gap_raised l.value) (paired l.keys l.initial.values.items)
    (paired l.keys l.values.items) l.initial.index-iterator.start l.index-iterator.start
