-- Proves the contract of `close`. Closes the table when one participant keeps the states of all
-- clients, and gives the range and its log.
use Rattle.std.specs.Slots.{slots_items}
use Rattle.mvcc_shared.proofs.Endings.{ends}
use Rattle.mvcc_shared.proofs.closing.close.Goals as goal

pub returns : goal.returns
returns c = ends c.args.table.shared.key c.args.all.id c.args.all.me.0
    (slots_items c.close_with-closed.result.words) (slots_items c.close_with-closed.result.slots)
    c.take.result c.into_inner-served.result c.close_with-closed.ensures.values.2 c.requires.none
    c.requires.states c.take.ensures.value c.into_inner-served.ensures
