-- Proves the loop invariants of `seat_all`. A seat for each state that this participant keeps, in
-- the order of their numbers.
use Rattle.std.proofs.Common.{◌≡◌, ◌++◌, ◌-◌}
use Rattle.tsc_shared.specs.Seats.{new_seats}
use Rattle.tsc_shared.specs.Keeping.{shared_view}
use Rattle.tsc_shared.proofs.Dealing.{left_over}
use Rattle.tsc_shared.proofs.seating.seat_all.Given as goal

abbrev pub invariant-loop-number : goal.invariant-loop-number
invariant-loop-number l =
    (l.all.table_id ≡ l.fn.all.table_id) ×
    (l.all.me ≡ left_over l.fn.setup l.number l.fn.setup.seats)
    × (l.seats.items ++ new_seats (shared_view l.fn.shared.table_id l.fn.setup) l.number
    (l.fn.setup.seats - l.number) ≡ new_seats (shared_view l.fn.shared.table_id l.fn.setup) 0
    l.fn.setup.seats)
