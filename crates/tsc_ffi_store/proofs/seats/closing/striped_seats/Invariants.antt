-- The seats so far, and those that are left, are all.
use Rattle.std.proofs.Common.{◌≡◌, ◌++◌, ◌+◌, ◌≤◌, length, map}
use Rattle.std.specs.Vec.{vec_capacity}
use Rattle.std.specs.Vec.Iter.{into_iter_items}
use Rattle.tsc_ffi_store.specs.declared.seats.kinds.AnySeat.TheVariants.{Striped}
use Rattle.tsc_ffi_store.proofs.seats.closing.striped_seats.Given as goal

abbrev pub invariant-loop-seat : goal.invariant-loop-seat
invariant-loop-seat l =
    (goal.iterator-loop-seat).can_next l.seat-iterator ×
    (goal.iterator-loop-seat).is_finite l.seat-iterator ×
    (map Striped l.room.items ++ into_iter_items l.seat-iterator ≡ l.fn.seats.items) ×
    (length l.room.items + length (into_iter_items l.seat-iterator) ≡ length l.fn.seats.items) ×
    (length l.fn.seats.items ≤ vec_capacity l.room)
