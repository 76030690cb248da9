-- Of a wrong line and the least one so far the lower is named.
use Rattle.std.proofs.Common.{arith}
use Rattle.tsc_check.proofs.sweep.lower.Goals as goal

pub returns-then-wrong-clause-at_most : goal.returns-then-wrong-clause-at_most
returns-then-wrong-clause-at_most c = omega arith
