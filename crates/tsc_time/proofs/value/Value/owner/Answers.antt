-- The owner is told.
use Rattle.std.proofs.Common.{rules}
use Rattle.tsc_time.proofs.value.Value.owner.Goals as goal

pub returns-clause-value : goal.returns-clause-value
returns-clause-value c = search rules
