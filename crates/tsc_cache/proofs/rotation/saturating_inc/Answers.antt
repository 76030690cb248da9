-- A count stays at the greatest number.
use Rattle.std.proofs.Common.{rules}
use Rattle.tsc_cache.proofs.rotation.saturating_inc.Goals as goal

pub returns : goal.returns
returns c = search rules
