-- A batch is of its own kind.
use Rattle.std.proofs.Common.{rules}
use Rattle.tsc_trace.proofs.log.CallAnswer.kind.Goals as goal

pub returns-in-Batch : goal.returns-in-Batch
returns-in-Batch c = search rules
