-- Proves the contract of `span_and_time`. The span and the time of an Add, or of a mark of a batch.
use Rattle.tsc_trace_format.proofs.BothParts.{both_gives}
use Rattle.tsc_trace_format.proofs.read.call.span_and_time.Goals as goal

pub returns : goal.returns
returns c = rw c.both.ensures (both_gives (λ x. x) (λ y. y) c.span_in.result c.time_in.result _ _
    c.span_in.ensures c.time_in.ensures)
