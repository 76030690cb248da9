-- Lines on which the verdict is right are the log of a run.
use Rattle.tsc_check.proofs.RightRuns.{right_is_run}
use Rattle.tsc_check.proofs.laws.right_logs_are_of_runs.Goals as goal

pub returns : goal.returns
returns c = right_is_run
