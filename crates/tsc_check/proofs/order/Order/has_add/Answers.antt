-- An Add with this place is there.
use Rattle.std.proofs.Common.{arith}
use Rattle.std.proofs.lemmas.Grind.{common_steps}
use Rattle.tsc_check.proofs.order.Order.has_add.Goals as goal

pub returns : goal.returns
returns c = grind (arith, common_steps)
