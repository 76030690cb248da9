-- Proves the contract of `try_acquire`. Acquires the lock if it is free.
use Rattle.std.proofs.Common.{arith}
use mathlib.Core.Option as maybe
use Rattle.atomic_table.specs.Table.{step}
use Rattle.mvcc_shared.proofs.Holding.{acquire_at, is_none, is_some}
use Rattle.mvcc_shared.proofs.locking.try_acquire.Goals as goal

pub compare_exchange-requires : goal.compare_exchange-requires
compare_exchange-requires c = (
  c.requires.of.table,
  omega (arith, c.requires.of.sized.words),
  acquire_at c.args.shared.now.key c.args.shared.now.table_id.slots
      (step c.args.shared.now.table_id.slots 0 0 1 maybe.none) c.args.who.now.id
      c.args.who.now.me c.requires.rest,
)

pub returns-clause-acquired : goal.returns-clause-acquired
returns-clause-acquired c is =
    c.compare_exchange.ensures.2.0 (is_none c.compare_exchange.result is)

pub returns-clause-busy : goal.returns-clause-busy
returns-clause-busy c is =
    c.compare_exchange.ensures.2.1 (is_some c.compare_exchange.result is)
