-- The seats of the slots so far are in the list, which has room for all.
use Rattle.std.proofs.Common.{◌≡◌, ◌<◌, ◌≤◌, length, All}
use Rattle.std.specs.Vec.{vec_capacity}
use Rattle.tsc_ffi_store.specs.declared.seats.kinds.AnySeat.{AnySeat}
use Rattle.tsc_ffi_store.specs.Kinds.{cache_of, number_of}
use Rattle.tsc_ffi_store.specs.ReturnSlots.{collecting}
use Rattle.tsc_ffi_store.proofs.Returning.{AreCollected}
use Rattle.tsc_ffi_store.proofs.seats.return_slots.collect_seats.Given as goal

abbrev pub invariant-loop-slot : goal.invariant-loop-slot
invariant-loop-slot l = (l.keeper.table_id ≡ l.fn.slots.table_id) ×
    (l.keeper.me.0
    ≡ collecting l.fn.slots.key l.seats l.slot l.seats l.fn.keeper.me.0.back
    l.fn.keeper.me.0.missed) ×
    All (λ seat. cache_of seat ≡ l.fn.slots.key) l.room.items ×
    (length l.room.items ≡ l.slot) × (l.seats ≤ vec_capacity l.room) ×
    AreCollected l.slot l.room.items l.fn.keeper.me.0.back ×
    (0 < l.slot → All (λ (s : AnySeat). number_of s < l.seats) l.fn.keeper.me.0.back)
