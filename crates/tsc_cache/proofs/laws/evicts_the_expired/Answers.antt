-- A rotation drops pages from the oldest on, each past its retention and while there are at least
-- `min_pages`, stops at the first that has to stay, and lifts the floor to the latest of itself and
-- of the dropped tops.
use Rattle.tsc_cache.proofs.Evictions.{evicts_the}
use Rattle.tsc_cache.proofs.laws.evicts_the_expired.Goals as goal

pub returns : goal.returns
returns c = evicts_the
