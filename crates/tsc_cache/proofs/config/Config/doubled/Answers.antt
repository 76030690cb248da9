-- Where the product is too great for 32 bits, the most is smaller.
use Rattle.std.proofs.Common.{rules}
use Rattle.tsc_cache.proofs.config.Config.doubled.Goals as goal

pub returns-clause-value : goal.returns-clause-value
returns-clause-value c = search rules
