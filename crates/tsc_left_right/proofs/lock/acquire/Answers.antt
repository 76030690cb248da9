-- Proves the contract of `acquire`. Tries once to acquire the writer lock.
use Rattle.std.proofs.Common.{◌∙◌, arith, ◌+◌, [], refl}
use mathlib.Core.Option as maybe
use Rattle.atomic_table.specs.Table.{step}
use Rattle.tsc_left_right.specs.declared.table.Slot.TheVariants.{Writer}
use Rattle.tsc_left_right.proofs.Calls.{acquire_at, first_in}
use Rattle.tsc_left_right.proofs.lock.acquire.Goals as goal

pub compare_exchange-requires : goal.compare_exchange-requires
compare_exchange-requires g c = (
  c.requires.of.table,
  omega (arith, c.requires.of.sized.words),
  acquire_at g.P.Replicated c.args.shared.now.key c.args.shared.now.table_id.slots
      (step c.args.shared.now.table_id.slots 0 0 (c.from.result + 1) maybe.none)
      c.args.who.now.id c.from.result c.args.who.now.me
      c.requires.free.0 (c.from.ensures ∙ c.requires.free.1),
)

pub exchange-requires : goal.exchange-requires
exchange-requires g c =
    let here = c.compare_exchange.ensures.2.0 c.if-compare_exchange-ne0.false in (
      c.compare_exchange.ensures.0 ∙ c.requires.of.table,
      first_in c.compare_exchange.new.seat.me.1 [] 0 0 (Writer here.0) here.2 refl,
    )
