-- Proves the contract of `has_few_calls`. Whether lists have no more calls than a trace may have.
use Rattle.std.proofs.Common.{refl}
use Rattle.tsc_trace_format.proofs.trace.has_few_calls.Goals as goal

pub loop-list-init : goal.loop-list-init
loop-list-init c = refl
