-- Wrong words have status 2.
use Rattle.std.proofs.Common.{rules}
use Rattle.tsc_commands.proofs.cli.WordsFault.status.Goals as goal

pub returns-in-Wrong : goal.returns-in-Wrong
returns-in-Wrong c = search rules
