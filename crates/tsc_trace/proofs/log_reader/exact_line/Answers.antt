-- A line is taken only as it would be written.
use Rattle.std.proofs.Common.{rules}
use Rattle.tsc_trace.proofs.log_reader.exact_line.Goals as goal

pub returns : goal.returns
returns c = search rules
