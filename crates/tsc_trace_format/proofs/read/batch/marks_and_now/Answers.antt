-- Proves the contract of `marks_and_now`. The marks and the moment of a batch.
use Rattle.tsc_trace_format.proofs.BothParts.{both_gives}
use Rattle.tsc_trace_format.proofs.read.batch.marks_and_now.Goals as goal

pub returns : goal.returns
returns c = rw c.both.ensures (both_gives (λ x. x) (λ y. y) c.marks_by_name.result c.time_in.result
    _ _ c.marks_by_name.ensures c.time_in.ensures)
