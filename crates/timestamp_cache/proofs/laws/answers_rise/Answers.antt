-- Whatever is added to a cache, no answer sinks, and each mark that is added is at most what is
-- answered on its span then.
use Rattle.timestamp_cache.proofs.Rising.{answers_rise}
use Rattle.timestamp_cache.proofs.laws.answers_rise.Goals as goal

pub returns : goal.returns
returns c = answers_rise
