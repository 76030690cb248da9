-- Wrong words are told by how the program is called.
use Rattle.std.proofs.Common.{rules}
use Rattle.tsc_commands.proofs.cli.WordsFault.line.Goals as goal

pub returns-in-Wrong : goal.returns-in-Wrong
returns-in-Wrong c = search rules
