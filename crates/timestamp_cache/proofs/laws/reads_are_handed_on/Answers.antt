-- Where a summary of one cache was applied to another, a write on a span within the summary's that
-- is clear of what the other one answers, then or after more Adds, is clear of each read there that
-- was added to the first.
use Rattle.timestamp_cache.proofs.TakingOver.{reads_are_handed_on}
use Rattle.timestamp_cache.proofs.laws.reads_are_handed_on.Goals as goal

pub returns : goal.returns
returns c = reads_are_handed_on
