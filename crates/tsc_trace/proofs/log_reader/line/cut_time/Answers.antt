-- Proves the contract of `cut_time`. The text before the first dot, and that behind it.
use Rattle.std.proofs.Common.{arith}
use Rattle.tsc_trace.proofs.FieldReading.{cut_parts}
use Rattle.tsc_trace.proofs.log_reader.line.cut_time.Goals as goal

pub returns : goal.returns
returns c = cut_parts 46 c.args.text.now c.split_once.result c.split_once.ensures.cases
    (omega arith)
