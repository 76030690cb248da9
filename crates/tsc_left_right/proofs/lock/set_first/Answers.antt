-- Proves the contract of `set_first`. Writes the word of the seat that goes first.
use Rattle.std.proofs.Common.{arith}
use mathlib.Core.Option as maybe
use Rattle.atomic_table.specs.Table.{step}
use Rattle.tsc_left_right.proofs.Moves.{line_allowed}
use Rattle.tsc_left_right.proofs.lock.set_first.Goals as goal

pub store-requires : goal.store-requires
store-requires g c = (
  c.requires.of.table,
  omega (arith, c.requires.of.sized.words),
  line_allowed g.P.Replicated c.args.shared.now.key c.args.shared.now.table_id.slots
      (step c.args.shared.now.table_id.slots 1 c.args.first 0 maybe.none) c.args.who.now.id
      c.args.who.now.me (λ _. c.args.first),
)
