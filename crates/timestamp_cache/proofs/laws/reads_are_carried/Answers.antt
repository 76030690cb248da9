-- What one seat added bounds what another is answered that learned the front of that Add, or of a
-- later one, and a write that is clear of the answer is clear of what was added.
use Rattle.timestamp_cache.proofs.Carrying.{reads_are_carried}
use Rattle.timestamp_cache.proofs.laws.reads_are_carried.Goals as goal

pub returns : goal.returns
returns c = reads_are_carried
