-- Proves the contract of `CallParts::low`. Makes the call for the floor that the members are.
use Rattle.tsc_trace_fast.proofs.CallMembers.{low_is, not_there}
use Rattle.tsc_trace_fast.proofs.quick.call.CallParts.low.Goals as goal

pub returns : goal.returns
returns c = λ found h.
    low_is found c.args.self.now h
    (not_there c.args.self.now.span c.is_some.result c.is_some.ensures c.if-is_some.false)
    (not_there c.args.self.now.time c.is_some-else-is_some.result c.is_some-else-is_some.ensures
    c.if-is_some-2.false)
    (not_there c.args.self.now.owner c.is_some-else-is_some-2.result
    c.is_some-else-is_some-2.ensures c.if-is_some-3.false)
    (not_there c.args.self.now.marks c.is_some-else-is_some-3.result
    c.is_some-else-is_some-3.ensures c.if-is_some-4.false)
    (not_there c.args.self.now.now c.is_some-else-is_some-4.result c.is_some-else-is_some-4.ensures
    c.if-is_some-5.false)
