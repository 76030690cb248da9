-- Proves the contract of `split_off`. The first of the states that a participant keeps goes to a
-- participant of its own.
use Rattle.std.proofs.Common.{arith}
use Rattle.tsc_left_right.proofs.FrontCalls.{split_at}
use Rattle.tsc_left_right.proofs.opening.split_off.Goals as goal

pub split_seat-requires : goal.split_seat-requires
split_seat-requires g c = (
  c.requires.of.table,
  omega (arith, c.requires.of.sized.words),
  split_at g.P.Replicated c.args.shared.now.key c.args.all.now.id c.args.all.now.me.0
      c.requires.states
      c.requires.some,
)
