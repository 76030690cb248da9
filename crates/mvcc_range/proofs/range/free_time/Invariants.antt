-- Proves the loop invariants of `free_time`. The earliest time, from one on, that is free for
-- writes.
use Rattle.std.proofs.Common.{take}
use Rattle.timestamp_cache.specs.Earliest.{IsEarliest}
use Rattle.mvcc_range.proofs.Times.{AreFreeOf}
use Rattle.mvcc_range.proofs.range.free_time.Given as goal

-- The earliest time that is free of so many keys.
abbrev pub invariant-loop-write : goal.invariant-loop-write
invariant-loop-write l =
    IsEarliest (AreFreeOf l.cache l.versions l.by (take l.write-index l.writes)) l.fn.from
    l.at
