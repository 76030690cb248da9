-- Proves the loop invariants of `span_form`. The form of a span.
use Rattle.std.proofs.Common.{length}
use Rattle.serde_json.specs.Data.{Members}
use Rattle.tsc_trace_fast.specs.TokenReads.{HasMembers}
use Rattle.tsc_trace_fast.specs.Kept.{KeepsSpan}
use Rattle.tsc_trace_fast.proofs.quick.span.span_form.Given as goal

abbrev pub invariant-loop-parts : goal.invariant-loop-parts
invariant-loop-parts l = (found : Members) × HasMembers 0 l.initial.reader found l.reader ×
    KeepsSpan found l.parts

abbrev pub decreases-loop-parts : goal.decreases-loop-parts
decreases-loop-parts l = length l.reader
