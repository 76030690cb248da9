-- What both did is told.
use Rattle.std.proofs.Common.{rules}
use Rattle.tsc_cache.proofs.added.Added.with.Goals as goal

pub returns : goal.returns
returns c = search rules
