-- A write that is clear of a read, or of what a lookup answers, is clear of each read that is at
-- most that.
use Rattle.tsc_cache.proofs.Histories.{clear_below}
use Rattle.timestamp_cache.proofs.laws.clear_of_less.Goals as goal

pub returns : goal.returns
returns c = clear_below
