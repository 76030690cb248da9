-- Proves the contract of `new_front`. A front of all that the seat of this participant has seen.
use Rattle.std.proofs.Common.{arith}
use Rattle.tsc_left_right.proofs.FrontCalls.{front_at}
use Rattle.tsc_left_right.proofs.fronts.new_front.Goals as goal

pub split_seat-requires : goal.split_seat-requires
split_seat-requires g c = (
  c.requires.of.table,
  omega (arith, c.requires.of.sized.words),
  front_at g.P.Replicated c.args.shared.now.key c.args.who.now.id c.args.who.now.me
      c.requires.rest,
)
