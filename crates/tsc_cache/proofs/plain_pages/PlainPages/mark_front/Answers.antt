-- The mark goes into the front page.
use Rattle.std.proofs.Common.{rules}
use Rattle.tsc_cache.proofs.plain_pages.PlainPages.mark_front.Goals as goal

pub returns-clause-marked : goal.returns-clause-marked
returns-clause-marked c = search rules
