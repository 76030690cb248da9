-- What the seat is told so far, with what the words that are left ask for, is told of all.
use Rattle.std.proofs.Common.{◌≡◌, drop}
use Rattle.tsc_ffi_store.specs.Writes.{asked_write}
use Rattle.tsc_ffi_store.proofs.WritesReported.{HasAskedAny}
use Rattle.tsc_ffi_store.proofs.write_requests.earliest_at.Given as goal

abbrev pub invariant-loop-words : goal.invariant-loop-words
invariant-loop-words l =
    let asked = asked_write l.args in
    HasAskedAny l.fn.seat.seat l.seat.seat asked.keys asked.spans (drop l.words-index asked.spans)
    asked.by asked.time l.time × (l.seat.returns ≡ l.fn.seat.returns)
