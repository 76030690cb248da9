-- What is put back is a slot with the seat.
use Rattle.std.proofs.Common.{refl}
use Rattle.tsc_ffi_store.proofs.store.Slot.seat_mut.Goals as goal

pub returns-in-Seat : goal.returns-in-Seat
returns-in-Seat c = rw c.in-Seat.is (refl, record { writes_back = tt; value = refl })
