-- As Adds go on, the answer to a span never sinks, and the floor never does.
use Rattle.tsc_cache.proofs.Histories.{rising}
use Rattle.tsc_cache.proofs.laws.rising.Goals as goal

pub returns : goal.returns
returns c = rising
