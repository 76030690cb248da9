-- The verdict on the log of a run is right.
use Rattle.tsc_check.proofs.TrueVerdict.{run_is_right}
use Rattle.tsc_check.proofs.laws.runs_are_right.Goals as goal

pub returns : goal.returns
returns c = run_is_right
