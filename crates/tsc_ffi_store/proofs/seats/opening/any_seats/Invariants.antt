-- The seats so far, and those that are left, are all.
use Rattle.std.proofs.Common.{◌≡◌, ◌++◌, map}
use Rattle.std.specs.Vec.Iter.{into_iter_items}
use Rattle.tsc_ffi_store.specs.declared.seats.kinds.AnySeat.TheVariants.{Shared}
use Rattle.tsc_ffi_store.proofs.seats.opening.any_seats.Given as goal

abbrev pub invariant-loop-seat : goal.invariant-loop-seat
invariant-loop-seat l =
    (goal.iterator-loop-seat).can_next l.seat-iterator ×
    (goal.iterator-loop-seat).is_finite l.seat-iterator ×
    (l.all.items ++ map Shared (into_iter_items l.seat-iterator) ≡ map Shared l.fn.seats.items)
