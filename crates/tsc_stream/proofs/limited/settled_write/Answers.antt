-- A write of nothing is a failure.
use Rattle.std.proofs.Common.{rules}
use Rattle.tsc_stream.proofs.limited.settled_write.Goals as goal

pub returns-in-Ok-eq0-clause-nothing : goal.returns-in-Ok-eq0-clause-nothing
returns-in-Ok-eq0-clause-nothing c = search rules
