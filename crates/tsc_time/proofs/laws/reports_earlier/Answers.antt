-- An equal time is not earlier.
use Rattle.std.proofs.Common.{rules}
use Rattle.tsc_time.proofs.laws.reports_earlier.Goals as goal

pub returns : goal.returns
returns c = search rules
