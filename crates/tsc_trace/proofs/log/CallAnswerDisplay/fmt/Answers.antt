-- A batch is told as one.
use Rattle.std.proofs.Common.{rules}
use Rattle.tsc_trace.proofs.log.CallAnswerDisplay.fmt.Goals as goal

pub returns-in-Batch-clause-writes : goal.returns-in-Batch-clause-writes
returns-in-Batch-clause-writes g c = search rules
