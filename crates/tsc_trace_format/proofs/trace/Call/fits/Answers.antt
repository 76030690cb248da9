-- The span of an Add has to fit, and each mark of a batch.
use Rattle.std.proofs.Common.{rules}
use Rattle.tsc_trace_format.proofs.trace.Call.fits.Goals as goal

pub returns-in-Add : goal.returns-in-Add
returns-in-Add c = search rules

pub returns-in-Batch : goal.returns-in-Batch
returns-in-Batch c = search rules
