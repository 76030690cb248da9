-- Proves the contract of `release`. The call that was made is the last of the history.
use Rattle.std.proofs.Common.{arith}
use mathlib.Core.Option as maybe
use Rattle.atomic_table.specs.Table.{step}
use Rattle.mvcc_shared.proofs.Holding.{release_at, left_over}
use Rattle.mvcc_shared.proofs.locking.release.Goals as goal

pub store-requires : goal.store-requires
store-requires c = (
  c.requires.of.table,
  omega (arith, c.requires.of.sized.words),
  release_at c.args.shared.now.key c.args.shared.now.table_id.slots
      (step c.args.shared.now.table_id.slots 0 0 0 maybe.none) c.args.who.now.id
      c.args.who.now.me c.requires.can.0 c.requires.can.1,
)

pub returns-clause-released : goal.returns-clause-released
returns-clause-released c = left_over
    (step c.args.shared.now.table_id.slots 0 0 0 maybe.none) c.args.who.now.me c.store.new.seat.me
    c.requires.can.0 c.requires.can.1 c.store.ensures.2
