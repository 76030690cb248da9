-- Proves the contract of `prepare_boxed`. Prepares an operation as `prepare` does, with what the
-- writer works with in its box.
use Rattle.std.proofs.Common.{arith}
use Rattle.tsc_left_right.proofs.preparing.prepare_boxed.Goals as goal

pub returns-in-Err-clause-left : goal.returns-in-Err-clause-left
returns-in-Err-clause-left g c = λ tries. record {
  leave = c.in-Err.ensures.left;
  why = omega (arith, c.requires.may.is_after.length, c.requires.may.room);
}
