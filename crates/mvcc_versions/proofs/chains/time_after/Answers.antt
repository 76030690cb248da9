-- Proves the contract of `time_after`. The earliest time, from one on, that is later than the last
-- write of a key.
use Rattle.std.proofs.Common.{subst, Option}
use Rattle.timestamp_cache.specs.Words.{Time}
use Rattle.timestamp_cache.specs.Earliest.{ReportsEarliest}
use Rattle.mvcc_versions.specs.Versions.{IsAfter}
use Rattle.mvcc_versions.proofs.chains.time_after.Goals as goal

pub returns : goal.returns
returns c =
    subst (λ (o : Option Time). ReportsEarliest (IsAfter o) c.args.from c.time_after_one.result)
    c.newest_time.ensures c.time_after_one.ensures
