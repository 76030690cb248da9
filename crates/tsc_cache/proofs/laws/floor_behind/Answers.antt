-- The floor stands where the configuration put it, or it was already older than the retention at
-- the moment of some Add.
use Rattle.tsc_cache.proofs.Histories.{floor_behind}
use Rattle.tsc_cache.proofs.laws.floor_behind.Goals as goal

pub returns : goal.returns
returns c = floor_behind
