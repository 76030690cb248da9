-- The places beside a key are in order, and the key of a span has bytes that a key can have.
use Rattle.std.proofs.Common.{subst}
use Rattle.tsc_span.specs.MadeSpan.{IsKey}
use Rattle.tsc_span.proofs.CutsTotal.{sides_in_order}
use Rattle.tsc_span.proofs.MadeSpans.{is_key, made_point}
use Rattle.tsc_span.proofs.span.Span.cuts.Goals as goal

pub returns-in-Point-clause-order : goal.returns-in-Point-clause-order
returns-in-Point-clause-order c = rw (c.bytes.ensures.value, c.bytes-in-Point.ensures.value)
    (sides_in_order c.in-Point.key)

pub returns-in-Point-clause-made : goal.returns-in-Point-clause-made
returns-in-Point-clause-made c =
    let key = subst IsKey c.bytes.ensures.value
    (is_key c.bytes.result.now c.bytes.ensures.fits c.bytes.ensures.small) in
    rw (← c.self.view_is, c.in-Point.is) (made_point c.in-Point.key key)
