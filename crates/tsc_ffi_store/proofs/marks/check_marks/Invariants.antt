-- Whatever marks the words that are left ask for, all words ask for marks with these.
use Rattle.std.proofs.Common.{drop}
use Rattle.tsc_ffi_store.proofs.MarksMade.{ChecksOn}
use Rattle.tsc_ffi_store.proofs.marks.check_marks.Given as goal

abbrev pub invariant-loop-words : goal.invariant-loop-words
invariant-loop-words l = ChecksOn l.config l.keys l.asked (drop l.words-index l.asked) l.fit
