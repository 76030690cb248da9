-- Proves the contract of `CallParts::batch`. Makes the batch that the members are. It takes the
-- marks out of the members.
use Rattle.std.proofs.Common.{◌∙◌, sym}
use Rattle.tsc_trace_fast.proofs.CallMembers.{batch_is, not_there}
use Rattle.tsc_trace_fast.proofs.quick.call.CallParts.batch.Goals as goal

pub returns : goal.returns
returns c = λ found h.
    batch_is found c.args.self.now h c.in_ok-marks.marks c.in_ok-now.now
    (not_there c.args.self.now.span c.is_some.result c.is_some.ensures c.if-is_some.false)
    (not_there c.args.self.now.time c.is_some-else-is_some.result c.is_some-else-is_some.ensures
    c.if-is_some-2.false)
    (not_there c.args.self.now.owner c.is_some-else-is_some-2.result
    c.is_some-else-is_some-2.ensures c.if-is_some-3.false)
    (sym c.take.ensures.value ∙ c.in_ok-marks.was) c.in_ok-now.was
