-- Proves the contract of `try_acquire`. Acquires the lock of a stripe if it is free.
use Rattle.std.proofs.Common.{arith}
use mathlib.Core.Option as maybe
use Rattle.atomic_table.specs.Table.{step}
use Rattle.tsc_stripe_table.proofs.Acquiring.{acquire_at, acquired_then, is_none, is_some}
use Rattle.tsc_stripe_table.proofs.locking.try_acquire.Goals as goal

pub compare_exchange-requires : goal.compare_exchange-requires
compare_exchange-requires c = (
  c.requires.of.table,
  omega (arith, c.lock_word.ensures.value, c.requires.of.sized.words, c.requires.can.is_stripe),
  acquire_at c.args.shared.now.key c.args.shared.now.table_id.slots
      (step c.args.shared.now.table_id.slots c.lock_word.result 0 1 maybe.none) c.args.who.now.id
      c.args.who.now.me c.args.stripe c.lock_word.result c.lock_word.ensures.value
      c.lock_word.ensures.value c.requires.can,
)

pub returns-clause-acquired : goal.returns-clause-acquired
returns-clause-acquired c is =
    acquired_then
    (step c.args.shared.now.table_id.slots c.lock_word.result 0 1 maybe.none)
    c.args.who.now.me c.compare_exchange.new.seat.me c.compare_exchange.result c.args.stripe
    c.lock_word.ensures.value c.compare_exchange.ensures.2 (is_none c.compare_exchange.result is)

pub returns-clause-busy : goal.returns-clause-busy
returns-clause-busy c is =
    c.compare_exchange.ensures.2.1 (is_some c.compare_exchange.result is)
