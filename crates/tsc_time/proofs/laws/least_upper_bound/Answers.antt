-- The ratchet order is a partial order, and the joint value of a list is its least upper bound.
use Rattle.tsc_time.proofs.JointLemmas.{joint-above, joint-least}
use Rattle.tsc_time.proofs.laws.least_upper_bound.Goals as goal

pub returns-clause-bound : goal.returns-clause-bound
returns-clause-bound c = record { above = joint-above; least = joint-least }
