-- Proves the contract of `new_front`. A front of all that the client of this participant has seen.
use Rattle.std.proofs.Common.{arith}
use Rattle.mvcc_shared.proofs.Seeing.{front_at}
use Rattle.mvcc_shared.proofs.fronts.new_front.Goals as goal

pub split_seat-requires : goal.split_seat-requires
split_seat-requires c = (
  c.requires.of.table,
  omega (arith, c.requires.of.sized.words),
  front_at c.args.shared.now.key c.args.who.now.id c.args.who.now.me c.requires.rest,
)
