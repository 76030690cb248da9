-- Where a mark is refused, all are; and where no words are left, the marks are those of all.
use Rattle.std.proofs.Common.{◌≡◌, Err, arith, rules}
use Rattle.tsc_ffi_store.proofs.MarksMade.{one_not_copied, all_made}
use Rattle.tsc_ffi_store.proofs.marks.marks.Goals as goal

pub returns-in_err-mark-clause-refused : goal.returns-in_err-mark-clause-refused
returns-in_err-mark-clause-refused c =
    let same : c.from_residual.result ≡ Err c.in_err-mark.field-0.0 = search rules in
    rw same (one_not_copied c.in_err-mark.field-0.0 c.args.keys.now c.args.asked.now
    c.loop-words.words-index _ c.loop-words-test.true c.in_err-mark.ensures.refused)

pub returns-clause-value : goal.returns-clause-value
returns-clause-value c = all_made c.args.keys.now c.args.asked.now c.loop-words.words-index
    c.loop-words.marks.items (omega arith) c.loop-words.invariant
