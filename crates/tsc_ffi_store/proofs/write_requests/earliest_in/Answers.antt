-- One span more.
use Rattle.std.proofs.Common.{subst}
use Rattle.tsc_time.specs.ValueView.{Owner}
use Rattle.tsc_ffi_store.specs.Writes.{asked_write}
use Rattle.tsc_ffi_store.specs.WriteSteps.{ReportsLater}
use Rattle.tsc_ffi_store.proofs.WritesReported.{reported_more, reported_all}
use Rattle.tsc_ffi_store.proofs.write_requests.earliest_in.Goals as goal

pub loop-words-preserved : goal.loop-words-preserved
loop-words-preserved c =
    let asked = asked_write c.args.args.now in
    reported_more c.args.cache.now asked.keys asked.spans c.loop-words.words-index _
    c.in_ok-span.span
    asked.by asked.time c.loop-words.time c.later_in-time.result c.loop-words-test.true
    c.in_ok-span.ensures.value
    (subst (λ (by : Owner). ReportsLater c.args.cache.now c.in_ok-span.span by c.loop-words.time
    c.later_in-time.result) c.from_bytes-by.ensures c.later_in-time.ensures)
    c.loop-words.invariant

pub returns-clause-reported : goal.returns-clause-reported
returns-clause-reported c =
    reported_all c.args.cache.now (asked_write c.args.args.now) c.loop-words.words-index
    c.loop-words.time c.loop-words-test.false c.loop-words.invariant
