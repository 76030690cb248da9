-- Proves the contract of `owner_and_now`. The owner and the moment of an Add.
use Rattle.tsc_time.specs.ValueView.{owner_of}
use Rattle.tsc_trace_format.proofs.BothParts.{both_gives}
use Rattle.tsc_trace_format.proofs.read.call.owner_and_now.Goals as goal

pub returns : goal.returns
returns c = rw c.both.ensures (both_gives owner_of (λ y. y) c.owner.result c.time_in.result _ _
    (rw c.optional.ensures at c.owner.ensures) c.time_in.ensures)
