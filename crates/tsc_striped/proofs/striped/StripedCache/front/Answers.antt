-- Proves the contract of `StripedCache::front`. All that a seat has seen.
use Rattle.tsc_striped.proofs.SeatSteps.{front_of_seat}
use Rattle.tsc_striped.proofs.striped.StripedCache.front.Goals as goal

pub invariant_of-result : goal.invariant_of-result
invariant_of-result c = front_of_seat c.seat.inside.participant c.new_front.result
    c.seat.inside.number c.seat.inside.count c.seat.invariant c.new_front.ensures.front
