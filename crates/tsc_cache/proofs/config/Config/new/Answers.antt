-- Each limit has a fault of its own.
use Rattle.std.proofs.Common.{rules}
use Rattle.tsc_cache.proofs.config.Config.new.Goals as goal

pub returns-then-not-contains : goal.returns-then-not-contains
returns-then-not-contains c = search rules
