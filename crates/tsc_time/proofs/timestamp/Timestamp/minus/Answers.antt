-- There is no time before zero.
use Rattle.std.proofs.Common.{rules}
use Rattle.tsc_time.proofs.timestamp.Timestamp.minus.Goals as goal

pub returns-else-ns-self : goal.returns-else-ns-self
returns-else-ns-self c = search rules
