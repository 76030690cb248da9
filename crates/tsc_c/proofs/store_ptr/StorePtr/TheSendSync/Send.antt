-- A pointer may go to another thread with what it owns.
use Rattle.std.proofs.Common.{Option}
use base.Shift.{Keyless}
use mir.Raw.{raw}
use denote.Memory.{lone}
use denote.RawPtr.{Ptr, block_ptr, null_ptr}
use denote.Param.Send.{IsSend, part_keyless, owning_send, sendable}
use base.Fraction.{full_share}
use denote.Param.SendFields.{declared_send, as_row_send, variants_send}
use Rattle.std.proofs.Crossing.{crosses, frees}
use Rattle.tsc_ffi_store.proofs.Crossing.{counted_cache_sends, owner_sends, counted_seat_sends}
use Rattle.tsc_c.specs.Owning.{Kept, heap, ptr_owns}
use Rattle.tsc_ffi_store.specs.contracts.store.Slot.{the_row as entry}
use Rattle.tsc_c.specs.contracts.store_ptr.StorePtr.{the_row, the_type}

slot_sends : IsSend entry
slot_sends = search (
  sendable,
  crosses,
  variants_send,
  as_row_send,
  counted_cache_sends,
  owner_sends,
  counted_seat_sends,
) depth 20

store_sends : IsSend Kept
store_sends = search (sendable, crosses, declared_send, as_row_send, slot_sends) depth 20

-- what a pointer owns is tied to no thread: nothing at null, and else the box of a store
keyless : (p : Ptr) (c : Option Kept.Denot) → Keyless (ptr_owns p c)
keyless null_ptr c = λ e. tt
keyless (block_ptr b o) c = λ x. (
  (λ e. tt),
  (
    part_keyless Kept store_sends full_share x b o,
    frees.frees heap (raw (lone Kept.mir)) (block_ptr b o),
  ),
)

pub send : IsSend the_row
send = owning_send the_type (search sendable, tt) (λ ptr. keyless ptr.at ptr.owned) (λ k ptr w. tt)
