-- Two lists of marks that are added one behind the other, at one moment, do together what their
-- joined list does.
use Rattle.tsc_cache.proofs.Batches.{lists_join}
use Rattle.tsc_cache.proofs.laws.lists_join.Goals as goal

pub returns : goal.returns
returns c = lists_join
