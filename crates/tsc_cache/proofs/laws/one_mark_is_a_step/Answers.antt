-- An Add of a list of one mark is the Add of that mark.
use Rattle.tsc_cache.proofs.Steps.{one_mark_is_a_step}
use Rattle.tsc_cache.proofs.laws.one_mark_is_a_step.Goals as goal

pub returns : goal.returns
returns c = one_mark_is_a_step
