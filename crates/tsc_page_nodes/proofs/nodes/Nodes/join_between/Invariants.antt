-- Proves the loop invariants of `Nodes::join_between`. The joint value of the keys and gaps between
-- two cuts.
use Rattle.std.proofs.Common.{◌≡◌, ◌⊎◌, length}
use Rattle.tsc_span.specs.Span.{between}
use Rattle.tsc_page_nodes.proofs.Seen.{IsAt, IsJointOf, KeySeen, KeyMet, GapSeen}
use Rattle.tsc_page_nodes.proofs.nodes.Nodes.join_between.Given as goal

-- the best so far is the joint value of the keys so far
abbrev pub invariant-loop-index : goal.invariant-loop-index
invariant-loop-index l =
    IsAt l.initial.index-iterator.start l.index-iterator.start l.index-iterator.end (length l.self)
    × (l.index-iterator.end ≡ l.initial.index-iterator.end)
    × IsJointOf (KeySeen l.self l.initial.index-iterator.start l.index-iterator.start) l.best

-- and then of all keys, and of the gaps so far
abbrev pub invariant-loop-index-2 : goal.invariant-loop-index-2
invariant-loop-index-2 l =
    IsAt l.initial.index-iterator.start l.index-iterator.start l.index-iterator.end (length l.self)
    × (l.index-iterator.end ≡ l.initial.index-iterator.end)
    × IsJointOf (λ w. KeyMet l.self (between l.from l.to) w ⊎
    GapSeen l.self l.initial.index-iterator.start l.index-iterator.start w) l.best
