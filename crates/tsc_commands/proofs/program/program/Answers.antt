-- The status is that of what was done.
use Rattle.std.proofs.Common.{rules}
use Rattle.tsc_commands.proofs.program.program.Goals as goal

pub returns : goal.returns
returns g c = search rules
