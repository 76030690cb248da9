-- Proves the loop invariants of `gather`. The states of all seats come to a participant.
use Rattle.std.proofs.Common.{◌≡◌, ◌++◌, [], List, map, All}
use Rattle.tsc_stripe_table.specs.Rule.{keeping}
use Rattle.tsc_striped.specs.Seats.{SeatView}
use Rattle.tsc_striped.specs.Keeping.{cache_of, state_of_seat}
use Rattle.tsc_striped.proofs.gathering.gather.Given as goal

abbrev pub invariant-loop-seat : goal.invariant-loop-seat
invariant-loop-seat l =
    (taken : List SeatView) × (l.fn.seats.items ≡ l.seats.items ++ taken)
    × (l.all.table_id ≡ l.fn.shared.table_id) × (l.shared ≡ l.fn.shared)
    × (l.all.me ≡ (keeping l.all.me.0.setup (map state_of_seat taken ++ l.fn.others.me.0.states), []))
    × (All (λ seat. seat.cache ≡ cache_of l.fn.others) l.fn.seats.items
    → cache_of l.all ≡ cache_of l.fn.others)

abbrev pub decreases-loop-seat : goal.decreases-loop-seat
decreases-loop-seat l = goal.left-loop-seat l
