-- Proves the loop invariants of `CallParts::read`. Reads the members up to the end of their object.
use Rattle.std.proofs.Common.{length}
use Rattle.serde_json.specs.Data.{Members}
use Rattle.tsc_trace_fast.specs.TokenReads.{HasMembers}
use Rattle.tsc_trace_fast.specs.Kept.{KeepsCall}
use Rattle.tsc_trace_fast.proofs.quick.call.CallParts.read.Given as goal

abbrev pub invariant-members : goal.invariant-members
invariant-members l = (found : Members) × HasMembers 3 l.initial.reader found l.reader ×
    KeepsCall found l.self

abbrev pub decreases-members : goal.decreases-members
decreases-members l = length l.reader
