-- A cache to which marks are added stands for the history before with one entry more.
use Rattle.timestamp_cache.proofs.Rising.{stands_longer}
use Rattle.timestamp_cache.proofs.laws.adds_are_entries.Goals as goal

pub returns : goal.returns
returns c = stands_longer
