-- What lies at the floor is not kept.
use Rattle.std.proofs.Common.{rules}
use Rattle.tsc_cache.proofs.cache.Cache.keeps_span.Goals as goal

pub returns-then-not-is_empty : goal.returns-then-not-is_empty
returns-then-not-is_empty c = search rules
