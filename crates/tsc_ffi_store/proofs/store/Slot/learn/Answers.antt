-- The owner learns, and nobody else.
use Rattle.std.proofs.Common.{rules}
use Rattle.tsc_ffi_store.proofs.Learning.{slot_learns, nobody_learns}
use Rattle.tsc_ffi_store.proofs.store.Slot.learn.Goals as goal

pub returns-in-Shared : goal.returns-in-Shared
returns-in-Shared c =
    rw c.in-Shared.is
    (slot_learns c.args.token.table_id c.args.token.me.0.back c.in-Shared.owner c.learn.new.self
    c.learn.ensures)

pub returns-in-Closed : goal.returns-in-Closed
returns-in-Closed c =
    nobody_learns c.args.token.table_id c.args.token.me.0.back c.args.self.now (search rules)
