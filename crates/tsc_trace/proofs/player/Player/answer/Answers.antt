-- An Add is at the place of the count before it, and a batch counts as one.
use Rattle.std.proofs.Common.{rules}
use Rattle.tsc_trace.proofs.player.Player.answer.Goals as goal

pub returns-in_ok-added-in-Add-clause-said : goal.returns-in_ok-added-in-Add-clause-said
returns-in_ok-added-in-Add-clause-said c = search rules

pub returns-in_ok-added-in-Batch-clause-made : goal.returns-in_ok-added-in-Batch-clause-made
returns-in_ok-added-in-Batch-clause-made c = search rules
