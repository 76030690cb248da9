-- Proves the contract of `number_64`. A number of 64 bits.
use Rattle.std.proofs.Common.{arith}
use Rattle.serde_json.specs.Data.{number, unsigned}
use Rattle.tsc_trace_fast.proofs.Values.{below}
use Rattle.tsc_trace_fast.proofs.quick.token.number_64.Goals as goal

pub returns : goal.returns
returns c = (
  number (unsigned c.in_ok-number.number),
  c.in_ok-number.ensures,
  below 18446744073709551616 c.in_ok-number.number (omega arith),
)
