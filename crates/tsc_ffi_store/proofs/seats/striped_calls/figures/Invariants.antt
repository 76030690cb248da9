-- The figures of the stripes so far were read, and the seat is one of the cache.
use Rattle.std.proofs.Common.{◌≡◌}
use Rattle.tsc_striped.specs.Answers.{GoesOn}
use Rattle.tsc_ffi_store.specs.StripedCalls.{ReadsAllFigures}
use Rattle.tsc_ffi_store.proofs.seats.striped_calls.figures.Given as goal

abbrev pub invariant-loop-stripe : goal.invariant-loop-stripe
invariant-loop-stripe l =
    ReadsAllFigures l.fn.seat l.seat l.stripe l.figures × GoesOn l.fn.seat l.seat
    × (l.seat.count ≡ l.fn.seat.count)
