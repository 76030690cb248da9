-- Proves the contract of `deal`. The first of the states that a participant keeps goes to a
-- participant of its own.
use Rattle.std.proofs.Common.{arith}
use Rattle.mvcc_shared.proofs.Seeing.{split_at}
use Rattle.mvcc_shared.proofs.opening.deal.Goals as goal

pub split_seat-requires : goal.split_seat-requires
split_seat-requires c = (
  c.requires.of.table,
  omega (arith, c.requires.of.sized.words),
  split_at c.args.shared.now.key c.args.all.now.id c.args.all.now.me.0 c.requires.states
      c.requires.some,
)
