-- Zero is the first time.
use Rattle.std.proofs.Common.{rules}
use Rattle.tsc_time.proofs.laws.ends_of_time.Goals as goal

pub returns-clause-zero : goal.returns-clause-zero
returns-clause-zero c = search rules
