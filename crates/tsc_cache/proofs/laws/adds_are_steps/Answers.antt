-- What an Add makes of all that can be seen is a step of each state that the cache stood for.
use Rattle.tsc_cache.proofs.AddsSeen.{adds_are_steps}
use Rattle.tsc_cache.proofs.laws.adds_are_steps.Goals as goal

pub returns : goal.returns
returns c = adds_are_steps
