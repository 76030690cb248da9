-- Proves the contract of `number_32`. A number of 32 bits.
use Rattle.tsc_trace_fast.proofs.Values.{number_got}
use Rattle.tsc_trace_fast.proofs.quick.token.number_32.Goals as goal

pub returns : goal.returns
returns c = number_got c.args.reader.now c.unsigned.new.reader 4294967296 c.in_ok-number.number
    c.try_from.result c.ok.result c.in_ok-number.ensures c.ok.ensures.value c.try_from.ensures
