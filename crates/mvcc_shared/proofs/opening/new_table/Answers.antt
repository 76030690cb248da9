-- Proves the contract of `new_table`. A table with a range and an empty log, and its first
-- participant, which keeps the states of all clients.
use Rattle.mvcc_shared.proofs.Openings.{opens}
use Rattle.mvcc_shared.proofs.opening.new_table.Goals as goal

pub new-requires-3 : goal.new-requires-3
new-requires-3 c =
    opens c.args.setup.now c.args.range c.new.result c.in_ok-new.field-0 c.new-slots.result.items
    c.push.new.self.items c.requires.range c.requires.opened c.new.ensures.items
    c.in_ok-new.ensures.ok c.new-slots.ensures.items c.in_ok-push.ensures.items
