-- Proves the contract of `small_number`. A number of 32 bits.
use Rattle.std.proofs.Common.{arith}
use Rattle.tsc_trace.proofs.FieldReading.{number_read}
use Rattle.tsc_trace.proofs.log_reader.line.small_number.Goals as goal

pub returns : goal.returns
returns c = rw c.ok.ensures.value (number_read 32 c.args.text.now c.parse.result
    (λ n small. omega arith) c.parse.ensures.value.0)
