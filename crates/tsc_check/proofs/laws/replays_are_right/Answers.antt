-- The verdict on the log of a replay is right.
use Rattle.tsc_check.proofs.Replayed.{replays_are_right}
use Rattle.tsc_check.proofs.laws.replays_are_right.Goals as goal

pub returns : goal.returns
returns c = replays_are_right
