-- Proves the contract of `pin`. The seat is pinned, and has its slot of the active side in hand.
use Rattle.std.proofs.Common.{◌∙◌, arith}
use mathlib.Core.Option as maybe
use Rattle.atomic_table.specs.Table.{step}
use Rattle.tsc_left_right.proofs.Calls.{pin_at, pinned_then, read_head_at, seen_at}
use Rattle.tsc_left_right.proofs.reader.pin.Goals as goal

pub fetch_add-requires : goal.fetch_add-requires
fetch_add-requires g c = (
  c.requires.of.table,
  omega (arith, c.requires.of.sized.words, c.epoch_word.ensures.value, c.requires.number.1),
  pin_at g.P.Replicated c.args.shared.now.key c.args.shared.now.table_id.slots
      (step c.args.shared.now.table_id.slots c.epoch_word.result 1 0 maybe.none)
      c.args.who.now.id c.args.number c.epoch_word.result c.args.who.now.me
      c.requires.rest c.requires.number.0 c.epoch_word.ensures.value,
)

pub load-requires : goal.load-requires
load-requires g c = (
  c.fetch_add.ensures.0 ∙ c.requires.of.table,
  omega (arith, c.requires.of.sized.words),
  read_head_at g.P.Replicated c.args.shared.now.key c.args.shared.now.table_id.slots
      (step c.args.shared.now.table_id.slots 16 0 0 maybe.none) c.fetch_add.new.seat.id
      c.args.who.now.me.0 c.fetch_add.new.seat.me
      (pinned_then c.args.who.now.me c.fetch_add.new.seat.me c.requires.rest
      c.fetch_add.ensures.2),
)

pub returns-clause-sees : goal.returns-clause-sees
returns-clause-sees g c =
    seen_at g.P.Replicated (step c.args.shared.now.table_id.slots 16 0 0 maybe.none) c.load.result
    c.args.number
    c.args.who.now.me.0 c.fetch_add.new.seat.me c.load.new.seat.me
    (pinned_then c.args.who.now.me c.fetch_add.new.seat.me c.requires.rest
    c.fetch_add.ensures.2) c.requires.number.0 c.load.ensures.2
