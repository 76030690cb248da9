-- Proves the loop invariants of `make_calls`. Makes the calls of a list, one after another, and
-- tells the gate of each.
use Rattle.std.proofs.Common.{◌≡◌}
use Rattle.tsc_run.proofs.Running.{IsUnderWay}
use Rattle.tsc_run.proofs.Seating.{IsLeft}
use Rattle.tsc_run.proofs.list.make_calls.Given as goal

-- the lines so far, with those of whatever run is made from here of the calls that are left, are a
-- run of the list; and so with the Adds that the seat counts
abbrev pub invariant-loop-index : goal.invariant-loop-index
invariant-loop-index g l =
    record {
      cache : l.seat.cache ≡ l.cache;
      same : l.seat.cache ≡ l.initial.seat.cache;
      thread : l.thread ≡ l.seat.number;
      runs : IsUnderWay l.initial.seat l.calls l.lines.items l.seat l.index;
      left : IsLeft l.initial.seat l.calls l.seat l.index;
    }
