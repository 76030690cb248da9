-- No bytes read as two things.
use Rattle.tsc_trace.proofs.OneReading.{one_reading}
use Rattle.tsc_trace.proofs.log_laws.reads_as_one_thing.Goals as goal

pub returns : goal.returns
returns c = one_reading
