-- Proves the contract of `release`. Releases the lock that was acquired last, and leaves its stripe
-- as it was.
use Rattle.std.proofs.Common.{arith}
use mathlib.Core.Option as maybe
use Rattle.atomic_table.specs.Table.{step}
use Rattle.tsc_stripe_table.proofs.Releasing.{release_at}
use Rattle.tsc_stripe_table.proofs.locking.release.Goals as goal

pub store-requires : goal.store-requires
store-requires c = (
  c.requires.of.table,
  omega (
    arith,
    c.lock_word.ensures.value,
    c.requires.of.sized.words,
    c.requires.can.1.has.is_stripe,
  ),
  release_at c.args.shared.now.key c.args.shared.now.table_id.slots
      (step c.args.shared.now.table_id.slots c.lock_word.result 0 0 maybe.none) c.args.who.now.id
      c.args.who.now.me c.args.stripe c.lock_word.result c.lock_word.ensures.value
      c.requires.can.0 c.requires.can.1,
)
