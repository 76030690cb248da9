-- A seat that goes nowhere goes on.
use Rattle.tsc_striped_leases.specs.StripedSeats.{striped_seat_rests}
use Rattle.tsc_striped_leases.proofs.lookups.TryingLookup.number.Goals as goal

pub returns : goal.returns
returns c = striped_seat_rests c.args.seat.now c.number.ensures.seat
