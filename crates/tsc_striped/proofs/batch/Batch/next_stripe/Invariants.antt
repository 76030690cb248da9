-- Nothing of the batch lies in the stripes that were met.
use Rattle.std.proofs.Common.{List}
use Rattle.tsc_span.specs.Span.{KeyBytes}
use Rattle.tsc_striped.specs.Cutting.{IsCut, SkipsTo}
use Rattle.tsc_striped.proofs.batch.Batch.next_stripe.Given as goal

abbrev pub invariant-loop-next : goal.invariant-loop-next
invariant-loop-next l = (bounds : List KeyBytes) → IsCut bounds l.self
    → SkipsTo bounds l.self l.fn.stripe l.next
