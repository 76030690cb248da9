-- Proves the contract of `added_span`. The span of a mark.
use Rattle.tsc_trace_fast.proofs.SpanMembers.{added_got}
use Rattle.tsc_trace_fast.proofs.quick.span.added_span.Goals as goal

pub returns : goal.returns
returns c = added_got c.args.reader.now c.span_form.new.reader c.in_ok-form.form c.added.result
    c.in_ok-form.ensures c.added.ensures
