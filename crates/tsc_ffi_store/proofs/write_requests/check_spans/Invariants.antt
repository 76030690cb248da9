-- Whatever the words that are left ask for, all words ask for spans with that.
use Rattle.std.proofs.Common.{drop}
use Rattle.tsc_ffi_store.proofs.SpansAsked.{AsksOn}
use Rattle.tsc_ffi_store.proofs.write_requests.check_spans.Given as goal

abbrev pub invariant-loop-words : goal.invariant-loop-words
invariant-loop-words l = AsksOn l.keys l.spans (drop l.words-index l.spans)
