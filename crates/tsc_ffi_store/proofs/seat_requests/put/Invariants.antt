-- The slots so far, with the seats that are left, are all; and there is room for these, and handles.
use Rattle.std.proofs.Common.{◌++◌, ◌+◌, ◌-◌, ◌^◌, ◌≤◌, length, map}
use Rattle.std.specs.Vec.{vec_len, vec_capacity}
use Rattle.std.specs.Vec.Iter.{into_iter_items}
use Rattle.tsc_ffi_store.specs.declared.store.Slot.TheVariants.{Seat}
use Rattle.tsc_ffi_store.specs.OpenHandles.{named_by}
use Rattle.tsc_ffi_store.specs.SeatCalls.{unasked}
use Rattle.tsc_ffi_store.proofs.PushedSlots.{IsPushing}
use Rattle.tsc_ffi_store.proofs.seat_requests.put.Given as goal

abbrev pub invariant-loop-seat : goal.invariant-loop-seat
invariant-loop-seat l =
    (goal.iterator-loop-seat).can_next l.seat-iterator ×
    (goal.iterator-loop-seat).is_finite l.seat-iterator ×
    IsPushing l.handles.items l.slots.items l.next
    (map (λ s. Seat (unasked l.fn.next s)) (into_iter_items l.seat-iterator))
    (named_by l.initial.handles.items l.initial.slots.items l.initial.next ++
    map (λ s. Seat (unasked l.fn.next s)) (into_iter_items l.initial.seat-iterator)) ×
    (vec_len l.handles + length (into_iter_items l.seat-iterator) ≤ vec_capacity l.handles) ×
    (vec_len l.slots + length (into_iter_items l.seat-iterator) ≤ vec_capacity l.slots) ×
    (l.next + length (into_iter_items l.seat-iterator) ≤ 2 ^ 64 - 1)
