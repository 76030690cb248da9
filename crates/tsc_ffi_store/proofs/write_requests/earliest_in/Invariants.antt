-- What is told so far, with what the words that are left ask for, is told of all.
use Rattle.std.proofs.Common.{drop}
use Rattle.tsc_ffi_store.specs.Writes.{asked_write}
use Rattle.tsc_ffi_store.proofs.WritesReported.{HasReported}
use Rattle.tsc_ffi_store.proofs.write_requests.earliest_in.Given as goal

abbrev pub invariant-loop-words : goal.invariant-loop-words
invariant-loop-words l =
    let asked = asked_write l.args in
    HasReported l.cache asked.keys asked.spans (drop l.words-index asked.spans) asked.by
    asked.time l.time
