-- Where a write is above the low-water time of the configuration, and no earlier than the moment of
-- any Add less the retention, the floor alone doesn't push it.
use Rattle.timestamp_cache.proofs.Pushing.{pushed_by_reads_alone}
use Rattle.timestamp_cache.proofs.laws.pushed_by_reads_alone.Goals as goal

pub returns : goal.returns
returns c = pushed_by_reads_alone
