-- Proves the contract of `time_behind`. The earliest time, from one on, that is later than another.
use Rattle.std.proofs.Common.{rules}
use Rattle.mvcc_versions.proofs.Times.{already_after, after_next}
use Rattle.mvcc_versions.proofs.chains.time_behind.Goals as goal

pub returns-then-lt : goal.returns-then-lt
returns-then-lt c = already_after c.args.last c.args.from (search rules) (search rules)

pub returns-else-lt : goal.returns-else-lt
returns-else-lt c = after_next c.args.last c.args.from c.next_time.result
    (search rules) c.next_time.ensures
