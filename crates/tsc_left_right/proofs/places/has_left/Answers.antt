-- Proves the contract of `has_left`. Whether a seat whose epoch is this, and was that when it was
-- watched, has left the standby side.
use Rattle.std.proofs.Common.{rules}
use Rattle.tsc_left_right.proofs.places.has_left.Goals as goal

pub returns-else-epoch-eq0 : goal.returns-else-epoch-eq0
returns-else-epoch-eq0 c = search rules
