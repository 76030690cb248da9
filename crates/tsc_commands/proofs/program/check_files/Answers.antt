-- A trace that is not opened is told, and no log is opened.
use Rattle.std.proofs.Common.{rules}
use Rattle.tsc_commands.proofs.program.check_files.Goals as goal

pub returns-in-Err : goal.returns-in-Err
returns-in-Err g c = search rules
