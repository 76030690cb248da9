-- Proves the contract of `SpanParts::form`. Makes the form of a span that the members are.
use Rattle.tsc_trace_fast.proofs.SpanMembers.{form_start, form_start_to_end, form_range, form_onward}
use Rattle.tsc_trace_fast.proofs.quick.span.SpanParts.form.Goals as goal

pub returns-in-None-None-None : goal.returns-in-None-None-None
returns-in-None-None-None c = λ found h. form_start found c.args.self _ (cc) h
    c.in-None-None-None.is-0 c.in-None-None-None.is-1 c.in-None-None-None.is-2

pub returns-in-None-None-Some : goal.returns-in-None-None-Some
returns-in-None-None-Some c = λ found h. form_onward found c.args.self _ (cc) h _
    c.in-None-None-Some.is-0 c.in-None-None-Some.is-1 c.in-None-None-Some.is-2

pub returns-in-Some-None-None : goal.returns-in-Some-None-None
returns-in-Some-None-None c = λ found h. form_start_to_end found c.args.self _ (cc) h _
    c.in-Some-None-None.is-0 c.in-Some-None-None.is-1 c.in-Some-None-None.is-2

pub returns-in-Some-Some-None : goal.returns-in-Some-Some-None
returns-in-Some-Some-None c = λ found h. form_range found c.args.self _ (cc) h _ _
    c.in-Some-Some-None.is-0 c.in-Some-Some-None.is-1 c.in-Some-Some-None.is-2
