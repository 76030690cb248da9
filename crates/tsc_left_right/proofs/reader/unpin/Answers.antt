-- Proves the contract of `unpin`. The seat lays its slot back as it was, and is unpinned.
use Rattle.std.proofs.Common.{arith}
use mathlib.Core.Option as maybe
use Rattle.atomic_table.specs.Table.{step}
use Rattle.tsc_left_right.proofs.Calls.{unpin_at}
use Rattle.tsc_left_right.proofs.reader.unpin.Goals as goal

pub fetch_add-requires : goal.fetch_add-requires
fetch_add-requires g c = let l = c.requires.pinned in (
  c.requires.of.table,
  omega (arith, c.requires.of.sized.words, c.epoch_word.ensures.value, c.requires.number.1),
  unpin_at g.P.Replicated c.args.shared.now.key c.args.shared.now.table_id.slots
      (step c.args.shared.now.table_id.slots c.epoch_word.result 1 0 maybe.none)
      c.args.who.now.id c.args.number c.epoch_word.result c.args.who.now.me
      l.0 l.1 l.2 c.requires.number.0 c.epoch_word.ensures.value,
)
