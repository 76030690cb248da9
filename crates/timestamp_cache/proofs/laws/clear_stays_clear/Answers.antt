-- A write that is clear of a read, or of what a lookup answers, is so at each later time.
use Rattle.timestamp_cache.proofs.Earliest.{clear_later}
use Rattle.timestamp_cache.proofs.laws.clear_stays_clear.Goals as goal

pub returns : goal.returns
returns c = clear_later
