-- Proves the loop invariants of `calls`. A list of calls.
use Rattle.std.proofs.Common.{length}
use Rattle.tsc_trace_format.specs.TraceText.{call_of}
use Rattle.tsc_trace_fast.proofs.Each.{HasRead}
use Rattle.tsc_trace_fast.proofs.quick.head.calls.Given as goal

abbrev pub invariant-calls : goal.invariant-calls
invariant-calls l = HasRead 4 call_of l.initial.reader l.calls.items l.reader

abbrev pub decreases-calls : goal.decreases-calls
decreases-calls l = length l.reader
