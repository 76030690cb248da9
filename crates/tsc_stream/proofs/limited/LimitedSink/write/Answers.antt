-- What was taken is told.
use Rattle.std.proofs.Common.{rules}
use Rattle.tsc_stream.proofs.limited.LimitedSink.write.Goals as goal

pub returns-else-eq-clause-bytes : goal.returns-else-eq-clause-bytes
returns-else-eq-clause-bytes g c = search rules

pub returns-then-eq-clause-why : goal.returns-then-eq-clause-why
returns-then-eq-clause-why g c = search rules
