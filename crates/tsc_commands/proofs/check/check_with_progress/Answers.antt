-- The status is that of the verdict.
use Rattle.std.proofs.Common.{rules}
use Rattle.tsc_commands.proofs.check.check_with_progress.Goals as goal

pub returns-in-Ok : goal.returns-in-Ok
returns-in-Ok g c = search rules
