-- The text of a log reads as this log, and as nothing else.
use Rattle.tsc_trace.proofs.OneReading.{reads_back_logs}
use Rattle.tsc_trace.proofs.log_laws.reads_back_what_is_written.Goals as goal

pub returns : goal.returns
returns c = reads_back_logs
