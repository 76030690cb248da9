-- Proves the contract of `two_numbers`. Two unsigned integers.
use Rattle.tsc_trace_format.proofs.BothParts.{both_gives}
use Rattle.tsc_trace_format.proofs.read.call.two_numbers.Goals as goal

pub returns : goal.returns
returns c = rw c.both.ensures (both_gives (λ x. x) (λ y. y) c.unsigned.result c.unsigned-2.result _
    _ c.unsigned.ensures c.unsigned-2.ensures)
