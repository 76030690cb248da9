-- Proves the contract of `histories_run`. A legal history is an execution of calls on one range.
use Rattle.mvcc_shared.proofs.Running.{histories_run}
use Rattle.mvcc_shared.proofs.laws.histories_run.Goals as goal

pub returns : goal.returns
returns c = histories_run
