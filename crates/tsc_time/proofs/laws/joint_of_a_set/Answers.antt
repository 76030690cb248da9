-- Neither the order of a list nor a value that comes twice changes its joint value.
use Rattle.tsc_time.proofs.JointLemmas.{joint-of_a_set}
use Rattle.tsc_time.proofs.laws.joint_of_a_set.Goals as goal

pub returns : goal.returns
returns c = joint-of_a_set
