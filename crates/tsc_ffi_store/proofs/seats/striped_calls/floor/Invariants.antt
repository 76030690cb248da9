-- The floors of the stripes so far were read, and the seat is one of the cache.
use Rattle.std.proofs.Common.{◌≡◌}
use Rattle.tsc_striped.specs.Answers.{GoesOn}
use Rattle.tsc_ffi_store.specs.StripedCalls.{ReadsFloors}
use Rattle.tsc_ffi_store.proofs.seats.striped_calls.floor.Given as goal

abbrev pub invariant-loop-stripe : goal.invariant-loop-stripe
invariant-loop-stripe l =
    ReadsFloors l.fn.seat l.seat l.stripe l.time × GoesOn l.fn.seat l.seat
    × (l.seat.count ≡ l.fn.seat.count)
