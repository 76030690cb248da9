-- The marks so far, and those of the words that are left, are all.
use Rattle.tsc_ffi_store.proofs.MarksMade.{ReadsOn}
use Rattle.tsc_ffi_store.proofs.marks.marks.Given as goal

abbrev pub invariant-loop-words : goal.invariant-loop-words
invariant-loop-words l = ReadsOn l.keys l.asked l.words-index l.marks.items
