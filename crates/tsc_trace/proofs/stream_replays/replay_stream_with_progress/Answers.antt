-- The replay of the trace is written.
use Rattle.std.proofs.Common.{rules}
use Rattle.tsc_trace.proofs.stream_replays.replay_stream_with_progress.Goals as goal

pub returns-clause-ok : goal.returns-clause-ok
returns-clause-ok g c = search rules

pub returns-in_err-write_output-clause-err : goal.returns-in_err-write_output-clause-err
returns-in_err-write_output-clause-err g c = search rules
