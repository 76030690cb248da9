-- Proves the contract of `CallParts::get`. Makes the lookup that the members are. It takes the span
-- out of the members.
use Rattle.std.proofs.Common.{◌∙◌, ap, sym, Ok}
use Rattle.tsc_trace_format.specs.declared.trace.Call.TheVariants.{Get}
use Rattle.tsc_trace_fast.proofs.CallMembers.{get_is, not_there}
use Rattle.tsc_trace_fast.proofs.quick.call.CallParts.get.Goals as goal

pub returns : goal.returns
returns c = λ found h.
    get_is found c.args.self.now h c.in_ok-form.form (sym c.take.ensures.value ∙ c.in_ok-form.was)
    (not_there c.args.self.now.time c.is_some-else-is_some.result c.is_some-else-is_some.ensures
    c.if-is_some-2.false)
    (not_there c.args.self.now.owner c.is_some.result c.is_some.ensures c.if-is_some.false)
    (not_there c.args.self.now.marks c.is_some-else-is_some-2.result
    c.is_some-else-is_some-2.ensures c.if-is_some-3.false)
    (not_there c.args.self.now.now c.is_some-else-is_some-3.result c.is_some-else-is_some-3.ensures
    c.if-is_some-4.false) ∙ ap (λ s. Ok (Get s)) (sym c.looked_up-span.ensures)
