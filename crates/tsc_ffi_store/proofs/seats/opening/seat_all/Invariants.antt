-- The handles so far and the seats that are left are all seats, and their tokens are all tokens.
use Rattle.std.proofs.Common.{◌≡◌}
use Rattle.std.specs.Arc.{arc_value}
use Rattle.std.specs.Vec.Iter.{into_iter_items}
use Rattle.tsc_ffi_store.proofs.Handles.{Dealing}
use Rattle.tsc_ffi_store.proofs.seats.opening.seat_all.Given as goal

abbrev pub invariant-loop-seat : goal.invariant-loop-seat
invariant-loop-seat l =
    (goal.iterator-loop-seat).can_next l.seat-iterator ×
    (goal.iterator-loop-seat).is_finite l.seat-iterator ×
    (l.dealer.table_id ≡ (arc_value l.shared).table) ×
    Dealing (arc_value l.shared).cache (arc_value l.shared).table l.seats l.dealer.me
    l.handles.items
    (into_iter_items l.seat-iterator)
