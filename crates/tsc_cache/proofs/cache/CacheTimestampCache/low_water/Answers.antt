-- The floor is told.
use Rattle.std.proofs.Common.{rules}
use Rattle.tsc_cache.proofs.cache.CacheTimestampCache.low_water.Goals as goal

pub returns-clause-value : goal.returns-clause-value
returns-clause-value c = search rules
