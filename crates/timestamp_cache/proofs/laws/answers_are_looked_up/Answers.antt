-- A cache answers to each span what each state answers that it stands for.
use Rattle.tsc_cache.proofs.StatesSeen.{answers_look}
use Rattle.timestamp_cache.proofs.laws.answers_are_looked_up.Goals as goal

pub returns : goal.returns
returns c = answers_look
