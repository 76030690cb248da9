-- A write is clear of a value where it is later, or at that value's time and the value is the
-- writer's own. A write that is clear of what a lookup of its span answers is clear of each read
-- that was added on the span before.
use Rattle.tsc_cache.proofs.Histories.{no_write_below_a_read}
use Rattle.tsc_cache.proofs.laws.no_write_below_a_read.Goals as goal

pub returns : goal.returns
returns c = no_write_below_a_read
