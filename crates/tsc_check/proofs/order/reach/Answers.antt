-- Its own Add is among those that it knows of.
use Rattle.std.proofs.Common.{rules}
use Rattle.tsc_check.proofs.order.reach.Goals as goal

pub returns-then-is_add : goal.returns-then-is_add
returns-then-is_add c = search rules
