-- Proves the contract of `next_time`. The first timestamp after this one, or `None` after the last.
use Rattle.std.proofs.Common.{rules}
use Rattle.timestamp_cache.proofs.next.next_time.Goals as goal

pub returns-in-Some : goal.returns-in-Some
returns-in-Some c = search rules

pub returns-in-None : goal.returns-in-None
returns-in-None c = search rules
