-- The floor is the configured one.
use Rattle.std.proofs.Common.{rules}
use Rattle.tsc_cache.proofs.cache.CacheTimestampCache.new.Goals as goal

pub returns : goal.returns
returns c = search rules
