-- The text of the log is written once.
use Rattle.std.proofs.Common.{rules}
use Rattle.tsc_trace.proofs.stream_replays.write_log.Goals as goal

pub returns-clause-ok : goal.returns-clause-ok
returns-clause-ok g c = search rules

pub returns-in_err-write_output-clause-err : goal.returns-in_err-write_output-clause-err
returns-in_err-write_output-clause-err g c = search rules
