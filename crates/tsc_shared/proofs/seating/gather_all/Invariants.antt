-- Proves the loop invariants of `gather_all`. All seats at one shared seat, or `None` where there
-- are none.
use Rattle.std.proofs.Common.{◌≡◌, ◌++◌, [], List, map, All}
use Rattle.tsc_left_right.specs.Rule.{keeping}
use Rattle.tsc_shared.specs.Seats.{SharedView, SeatView}
use Rattle.tsc_shared.specs.Keeping.{cache_of, state_of_seat}
use Rattle.tsc_shared.proofs.seating.gather_all.Given as goal

abbrev pub invariant-loop-seat : goal.invariant-loop-seat
invariant-loop-seat l =
    (taken : List SeatView) × (l.fn.seats.items ≡ l.seats.items ++ taken) ×
    (l.all.table_id ≡ l.fn.shared.table_id) × (l.shared ≡ l.fn.shared)
    × (l.all.me ≡ (keeping l.all.me.0.setup (map state_of_seat taken), []))
    × ((cache : SharedView) → All (λ seat. seat.cache ≡ cache) l.fn.seats.items
    → cache_of l.all ≡ cache)

abbrev pub decreases-loop-seat : goal.decreases-loop-seat
decreases-loop-seat l = goal.left-loop-seat l
