-- Proves the contract of `HeadParts::trace`. Makes the trace that the members are. It takes the
-- lists out of the members.
use Rattle.std.proofs.Common.{◌≡◌, true, sym, ap, ◌∙◌}
use Rattle.tsc_trace_fast.specs.Kept.{each_fits}
use Rattle.tsc_trace_fast.proofs.HeadMembers.{trace_is, asked_ok}
use Rattle.tsc_trace_fast.proofs.quick.head.HeadParts.trace.Goals as goal

pub returns : goal.returns
returns c = λ found h.
    let fit : each_fits c.in_ok-config.config c.in_ok-threads.threads ≡ true =
    ap (each_fits c.in_ok-config.config) (sym c.slice.ensures.value) ∙ sym c.all_fit.ensures ∙
    c.if-not-all_fit.false in
    trace_is found c.args.self.now c.in_ok-self.field-0 c.in_ok-self-2.field-0
    c.in_ok-self-3.field-0 c.in_ok-self-4.field-0 c.in_ok-self-5.field-0 c.in_ok-config.config
    c.in_ok-threads.threads h
    c.in_ok-self.was c.in_ok-self-2.was c.in_ok-self-3.was c.in_ok-self-4.was c.in_ok-self-5.was
    (sym c.take.ensures.value ∙ c.in_ok-threads.was)
    (sym c.new.ensures ∙ asked_ok c.new.result c.ok.result c.in_ok-config.config
    c.ok.ensures.value c.in_ok-config.was) fit
