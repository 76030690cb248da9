-- Proves the contract of `commit_batch`. The batch that was made on the stripe becomes the last
-- entry of the history.
use Rattle.std.proofs.Common.{arith}
use mathlib.Core.Option as maybe
use Rattle.atomic_table.specs.Table.{step}
use Rattle.tsc_stripe_table.proofs.Releasing.{commit_batch_at}
use Rattle.tsc_stripe_table.proofs.locking.commit_batch.Goals as goal

pub store-requires : goal.store-requires
store-requires c = (
  c.requires.of.table,
  omega (
    arith,
    c.lock_word.ensures.value,
    c.requires.of.sized.words,
    c.requires.can.1.has.is_stripe,
  ),
  commit_batch_at c.args.shared.now.key c.args.shared.now.table_id.slots
      (step c.args.shared.now.table_id.slots c.lock_word.result 0 0 maybe.none) c.args.who.now.id
      c.args.who.now.me c.args.stripe c.lock_word.result c.lock_word.ensures.value
      c.requires.can.0 c.requires.can.1,
)
