-- The file is replayed once.
use Rattle.std.proofs.Common.{rules}
use Rattle.tsc_commands.proofs.program.replay_file.Goals as goal

pub returns-in-Ok : goal.returns-in-Ok
returns-in-Ok g c = search rules
