-- An answer comes from the floor and from the Adds on the span, and from nothing else.
use Rattle.tsc_cache.proofs.Histories.{real_answers}
use Rattle.tsc_cache.proofs.laws.real.Goals as goal

pub returns : goal.returns
returns c = real_answers
