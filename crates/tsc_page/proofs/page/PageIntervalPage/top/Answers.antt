-- The top is kept beside the leaves.
use Rattle.std.proofs.Common.{rules}
use Rattle.tsc_page.proofs.page.PageIntervalPage.top.Goals as goal

pub returns-clause-value : goal.returns-clause-value
returns-clause-value c = search rules
