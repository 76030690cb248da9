-- Proves the loop invariants of `ask_all`. Asks the next holder for all writes, in their order. The
-- holder tells for each write at which time it may be laid down.
use Rattle.std.proofs.Common.{drop}
use Rattle.example_hand_over.specs.Answered.{IsPushed}
use Rattle.timestamp_cache.proofs.Rows.{IsPartWay}
use Rattle.example_hand_over.proofs.ask_all.Given as goal

abbrev pub invariant-loop-write : goal.invariant-loop-write
invariant-loop-write g l = IsPartWay (IsPushed g.F.Former.cache g.F.Former.range)
    l.fn.tables.writes.now l.all.items (drop l.write-index l.fn.tables.writes.now)
