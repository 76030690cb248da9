-- The text is the argument's value.
use Rattle.std.proofs.Common.{rules}
use Rattle.tsc_commands.proofs.cli.text.Goals as goal

pub returns-in_ok-from_str-in-Some : goal.returns-in_ok-from_str-in-Some
returns-in_ok-from_str-in-Some c = search rules
