-- The time is kept.
use Rattle.std.proofs.Common.{rules}
use Rattle.tsc_time.proofs.value.Value.unowned.Goals as goal

pub returns : goal.returns
returns c = search rules
