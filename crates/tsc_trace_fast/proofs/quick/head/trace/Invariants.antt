-- Proves the loop invariants of `trace`. The trace that an object is.
use Rattle.std.proofs.Common.{length}
use Rattle.serde_json.specs.Data.{Members}
use Rattle.tsc_trace_fast.specs.TokenReads.{HasMembers}
use Rattle.tsc_trace_fast.specs.Kept.{KeepsHead}
use Rattle.tsc_trace_fast.proofs.quick.head.trace.Given as goal

abbrev pub invariant-loop-parts : goal.invariant-loop-parts
invariant-loop-parts l = (found : Members) × HasMembers 6 l.initial.reader found l.reader ×
    KeepsHead found l.parts

abbrev pub decreases-loop-parts : goal.decreases-loop-parts
decreases-loop-parts l = length l.reader
