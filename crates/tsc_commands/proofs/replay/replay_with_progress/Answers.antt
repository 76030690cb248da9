-- A replay ends with 0, or with the status of its fault, which is told.
use Rattle.std.proofs.Common.{rules}
use Rattle.tsc_commands.proofs.replay.replay_with_progress.Goals as goal

pub returns-in-Ok : goal.returns-in-Ok
returns-in-Ok g c = search rules

pub returns-in-Err : goal.returns-in-Err
returns-in-Err g c = search rules
