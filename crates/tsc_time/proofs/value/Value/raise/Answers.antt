-- Two owners at one time make none.
use Rattle.std.proofs.Common.{rules}
use Rattle.tsc_time.proofs.value.Value.raise.Goals as goal

pub returns-clause-value : goal.returns-clause-value
returns-clause-value c = search rules

pub returns-clause-updated : goal.returns-clause-updated
returns-clause-updated c = search rules
