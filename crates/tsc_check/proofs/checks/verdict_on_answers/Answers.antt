-- A wrong line is named by its number, from 1.
use Rattle.std.proofs.Common.{rules}
use Rattle.tsc_check.proofs.checks.verdict_on_answers.Goals as goal

pub returns-in-Some : goal.returns-in-Some
returns-in-Some c = search rules
