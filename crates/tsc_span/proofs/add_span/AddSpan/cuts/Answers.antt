-- The places beside a key are in order.
use Rattle.tsc_span.proofs.CutsTotal.{sides_in_order}
use Rattle.tsc_span.proofs.add_span.AddSpan.cuts.Goals as goal

pub returns-in-Point-clause-order : goal.returns-in-Point-clause-order
returns-in-Point-clause-order c = rw (c.bytes.ensures, c.bytes-in-Point.ensures)
    (sides_in_order c.in-Point.key)
