-- Proves the contract of `side_slot`. The slot of a seat on a side.
use Rattle.std.proofs.Common.{rules, arith}
use Rattle.tsc_left_right.proofs.places.side_slot.Goals as goal

pub returns-clause-value : goal.returns-clause-value
returns-clause-value c = search rules

pub returns-clause-sides : goal.returns-clause-sides
returns-clause-sides c = λ other low. omega (arith, low)
