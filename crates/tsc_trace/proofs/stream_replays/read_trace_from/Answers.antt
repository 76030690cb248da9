-- The input is read once.
use Rattle.std.proofs.Common.{rules}
use Rattle.tsc_trace.proofs.stream_replays.read_trace_from.Goals as goal

pub returns-clause-ok : goal.returns-clause-ok
returns-clause-ok g c = search rules
