-- The program has its three subcommands.
use Rattle.std.proofs.Common.{rules}
use Rattle.tsc_commands.proofs.cli.clap_command.Goals as goal

pub returns : goal.returns
returns c = search rules
