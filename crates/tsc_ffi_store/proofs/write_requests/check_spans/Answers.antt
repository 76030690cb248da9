-- One span more.
use Rattle.tsc_ffi_store.proofs.SpansAsked.{one_asked_more, all_asked_for}
use Rattle.tsc_ffi_store.proofs.write_requests.check_spans.Goals as goal

pub loop-words-preserved : goal.loop-words-preserved
loop-words-preserved c =
    one_asked_more c.args.keys.now c.args.spans.now c.loop-words.words-index _ c.in_ok-_span._span
    c.loop-words-test.true c.in_ok-_span.ensures.value c.loop-words.invariant

pub returns-clause-reported : goal.returns-clause-reported
returns-clause-reported c =
    all_asked_for c.args.keys.now c.args.spans.now c.loop-words.words-index c.loop-words-test.false
    c.loop-words.invariant
