-- All lines are kept.
use Rattle.std.proofs.Common.{rules}
use Rattle.tsc_trace.proofs.log.Lines.of.Goals as goal

pub returns : goal.returns
returns c = search rules
