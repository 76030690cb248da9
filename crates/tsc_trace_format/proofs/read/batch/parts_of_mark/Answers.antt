-- Proves the contract of `parts_of_mark`. The span, the time and the owner of a mark.
use Rattle.tsc_time.specs.ValueView.{owner_of}
use Rattle.tsc_trace_format.proofs.BothParts.{both_gives}
use Rattle.tsc_trace_format.proofs.read.batch.parts_of_mark.Goals as goal

pub returns : goal.returns
returns c = rw c.both.ensures (both_gives (λ x. x) owner_of c.span_and_time.result c.owner.result _
    _ c.span_and_time.ensures (rw c.optional.ensures at c.owner.ensures))
