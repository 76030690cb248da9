-- What is counted so far is what the seats so far come to.
use Rattle.std.proofs.Common.{◌≡◌, take}
use Rattle.tsc_ffi_store.specs.Owners.{adds_of}
use Rattle.tsc_ffi_store.proofs.seats.closing.count_adds.Given as goal

abbrev pub invariant-loop-seat : goal.invariant-loop-seat
invariant-loop-seat l = l.adds ≡ adds_of (take l.seat-index l.seats)
