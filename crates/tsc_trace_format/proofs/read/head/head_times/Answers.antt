-- Proves the contract of `head_times`. `retention` and `low_water`.
use Rattle.tsc_trace_format.proofs.BothParts.{both_gives}
use Rattle.tsc_trace_format.proofs.read.head.head_times.Goals as goal

pub returns : goal.returns
returns c = rw c.both.ensures (both_gives (λ x. x) (λ y. y) c.number_64_in.result c.time_in.result _
    _ c.number_64_in.ensures c.time_in.ensures)
