-- The place before a key lies below the place after it.
use Rattle.tsc_span.proofs.CutsTotal.{sides_in_order}
use Rattle.tsc_span.proofs.span_ref.SpanRef.cuts.Goals as goal

pub returns-in-Point-clause-order : goal.returns-in-Point-clause-order
returns-in-Point-clause-order c = sides_in_order c.in-Point.key.now
