-- The nil UUID owns nothing.
use Rattle.std.proofs.Common.{rules}
use Rattle.tsc_time.proofs.value.Value.of.Goals as goal

pub returns : goal.returns
returns c = search rules
