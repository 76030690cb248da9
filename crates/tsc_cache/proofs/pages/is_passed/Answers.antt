-- A page with a top at the time that was met is not passed.
use Rattle.std.proofs.Common.{rules}
use Rattle.tsc_cache.proofs.pages.is_passed.Goals as goal

pub returns : goal.returns
returns c = search rules
