-- Proves the loop invariants of `mark`. A mark.
use Rattle.std.proofs.Common.{length}
use Rattle.serde_json.specs.Data.{Members}
use Rattle.tsc_trace_fast.specs.TokenReads.{HasMembers}
use Rattle.tsc_trace_fast.specs.Kept.{KeepsMark}
use Rattle.tsc_trace_fast.proofs.quick.mark.mark.Given as goal

abbrev pub invariant-loop-parts : goal.invariant-loop-parts
invariant-loop-parts l = (found : Members) × HasMembers 1 l.initial.reader found l.reader ×
    KeepsMark found l.parts

abbrev pub decreases-loop-parts : goal.decreases-loop-parts
decreases-loop-parts l = length l.reader
