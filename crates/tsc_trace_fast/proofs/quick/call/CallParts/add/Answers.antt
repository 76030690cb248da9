-- Proves the contract of `CallParts::add`. Makes the Add that the members are. It takes the span
-- out of the members.
use Rattle.std.proofs.Common.{◌∙◌, ap, sym, Ok}
use Rattle.std.specs.Prelude.{unwrap_or}
use Rattle.tsc_time.specs.ValueView.{owner_of}
use Rattle.tsc_trace_format.specs.declared.trace.Call.TheVariants.{Add}
use Rattle.tsc_trace_fast.proofs.CallMembers.{add_is, not_there}
use Rattle.tsc_trace_fast.proofs.quick.call.CallParts.add.Goals as goal

pub returns : goal.returns
returns c = λ found h.
    let at = c.in_ok-self.field-0 in
    let span = c.in_ok-span.span in
    let now = c.in_ok-now.now in
    add_is found c.args.self.now h c.in_ok-form.form at now span
    (not_there c.args.self.now.marks c.is_some.result c.is_some.ensures c.if-is_some.false)
    (sym c.take.ensures.value ∙ c.in_ok-form.was) c.in_ok-self.was c.in_ok-now.was
    (sym c.added.ensures ∙ c.in_ok-span.was)
    ∙ ap (λ v. Ok (Add span v now))
    (sym (c.of-value.ensures ∙
    ap (λ u. record { time = at; owner = owner_of u })
    (c.unwrap_or.ensures ∙ ap (unwrap_or c.args.self.now.owner) c.nil.ensures)))
