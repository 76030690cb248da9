-- Each trace whose parts the public constructors make, and which is not too large, has a JSON value
-- that is read as that trace.
use Rattle.tsc_trace_format.proofs.Written.{written_is_read}
use Rattle.tsc_trace_format.proofs.laws.reads_what_is_written.Goals as goal

pub returns : goal.returns
returns c = written_is_read
