-- A seat that goes nowhere goes on.
use Rattle.timestamp_cache.specs.SeatLaws.{shared_seat_rests}
use Rattle.timestamp_cache.proofs.lookups.SharedCacheLookup.number.Goals as goal

pub returns : goal.returns
returns c = shared_seat_rests c.args.seat.now c.number.ensures.seat
