-- Keys stand as their bytes do.
use Rattle.std.proofs.Common.{rules}
use Rattle.tsc_span.proofs.key.KeyOrd.cmp.Goals as goal

pub returns : goal.returns
returns c = search rules
