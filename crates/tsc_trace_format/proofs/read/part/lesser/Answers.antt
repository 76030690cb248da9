-- The fault of the lower number is told, whichever it is.
use Rattle.std.proofs.Common.{rules}
use Rattle.tsc_trace_format.proofs.read.part.lesser.Goals as goal

pub returns-in-Fault-Fault : goal.returns-in-Fault-Fault
returns-in-Fault-Fault c = search rules

pub returns-in-Fault-Fault-2 : goal.returns-in-Fault-Fault-2
returns-in-Fault-Fault-2 c = search rules
