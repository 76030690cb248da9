-- A page is past retention below the limit alone.
use Rattle.std.proofs.Common.{rules}
use Rattle.tsc_cache.proofs.config.Config.is_past_retention.Goals as goal

pub returns-in-Some : goal.returns-in-Some
returns-in-Some c = search rules
