-- Proves the contract of `number`. A number of 64 bits.
use Rattle.tsc_trace.proofs.FieldReading.{number_read}
use Rattle.tsc_trace.proofs.log_reader.line.number.Goals as goal

pub returns : goal.returns
returns c = rw c.ok.ensures.value (number_read 64 c.args.text.now c.parse.result (λ n small. small)
    c.parse.ensures.value.0)
