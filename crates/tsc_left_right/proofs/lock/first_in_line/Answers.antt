-- Proves the contract of `first_in_line`. What stands in the word of the seat that goes first.
use Rattle.std.proofs.Common.{arith}
use mathlib.Core.Option as maybe
use Rattle.atomic_table.specs.Table.{step}
use Rattle.tsc_left_right.proofs.Moves.{line_allowed}
use Rattle.tsc_left_right.proofs.lock.first_in_line.Goals as goal

pub load-requires : goal.load-requires
load-requires g c = (
  c.requires.of.table,
  omega (arith, c.requires.of.sized.words),
  line_allowed g.P.Replicated c.args.shared.now.key c.args.shared.now.table_id.slots
      (step c.args.shared.now.table_id.slots 1 0 0 maybe.none) c.args.who.now.id c.args.who.now.me
      (λ n. n),
)
