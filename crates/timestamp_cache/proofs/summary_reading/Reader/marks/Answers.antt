-- One mark more, or the fault of one.
use Rattle.std.proofs.lemmas.Result.{err_from_is_err_and}
use Rattle.timestamp_cache.specs.SummaryReading.{marks_at}
use Rattle.timestamp_cache.proofs.SummaryMarks.{goes_on, fails, all_read}
use Rattle.timestamp_cache.proofs.summary_reading.Reader.marks.Goals as goal

pub loop-preserved : goal.loop-preserved
loop-preserved c =
    rw c.in_ok-push.ensures.items
    (goes_on c.loop.marks.items c.args.count c.loop.counter c.loop.self.rest.now c.in_ok-mark.mark
    c.mark.new.self.rest.now (marks_at c.args.count c.args.self.now.rest.now) c.loop-test.true
    c.in_ok-mark.ensures c.loop.invariant)

pub returns-in_err-mark : goal.returns-in_err-mark
returns-in_err-mark c =
    let fault = err_from_is_err_and c.from_residual.result c.from_residual.ensures.1 in
    rw (fault.1, fault.2)
    (fails c.in_err-mark.field-0.0 c.loop.marks.items c.args.count c.loop.counter
    c.loop.self.rest.now (marks_at c.args.count c.args.self.now.rest.now) c.loop-test.true
    c.in_err-mark.ensures c.loop.invariant)

pub returns : goal.returns
returns c = all_read c.loop.marks.items c.args.count c.loop.counter c.loop.self.rest.now
    (marks_at c.args.count c.args.self.now.rest.now) c.loop-test.false c.loop.invariant
