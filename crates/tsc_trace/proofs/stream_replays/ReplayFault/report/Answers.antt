-- The text is written with its number.
use Rattle.std.proofs.Common.{rules}
use Rattle.tsc_trace.proofs.stream_replays.ReplayFault.report.Goals as goal

pub returns-clause-ok : goal.returns-clause-ok
returns-clause-ok g c = search rules
