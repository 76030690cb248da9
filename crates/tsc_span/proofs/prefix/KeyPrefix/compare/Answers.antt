-- The third word is compared where the first two are the same.
use Rattle.std.proofs.Common.{rules}
use Rattle.tsc_span.proofs.prefix.KeyPrefix.compare.Goals as goal

pub returns-else-self-other-2 : goal.returns-else-self-other-2
returns-else-self-other-2 c = search rules
