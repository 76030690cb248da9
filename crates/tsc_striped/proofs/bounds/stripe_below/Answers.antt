-- Proves the contract of `stripe_below`.
use Rattle.std.proofs.Common.{◌∙◌, sym, ap, arith}
use Rattle.tsc_span.specs.Cuts.{cut_of}
use Rattle.tsc_span.specs.Span.{before, is_below}
use Rattle.tsc_striped.proofs.Counting.{below_high, below_low}
use Rattle.tsc_striped.proofs.bounds.stripe_below.Goals as goal

pub loop-low-preserved-then-is_below : goal.loop-low-preserved-then-is_below
loop-low-preserved-then-is_below c =
    let below = ap (λ k. is_below (before k) (cut_of c.args.place))
    (sym c.bytes.ensures.value) ∙ sym c.is_below.ensures ∙ c.if-is_below.true in (
      omega (
        arith,
        below_low c.args.bounds.now (cut_of c.args.place) _ c.index-bounds-middle.result
            c.requires.order (omega (arith, c.next_probe-middle.ensures.1, c.loop-low.invariant.2))
            c.index-bounds-middle.is below,
      ),
      c.loop-low.invariant.1,
      c.loop-low.invariant.2,
    )

pub loop-low-preserved : goal.loop-low-preserved
loop-low-preserved c =
    let below = ap (λ k. is_below (before k) (cut_of c.args.place))
    (sym c.bytes.ensures.value) ∙ sym c.is_below.ensures ∙ c.if-is_below.false in (
      c.loop-low.invariant.0,
      below_high c.args.bounds.now (cut_of c.args.place) _ c.index-bounds-middle.result
          c.requires.order (omega (arith, c.next_probe-middle.ensures.1, c.loop-low.invariant.2))
          c.index-bounds-middle.is below,
      omega (arith, c.next_probe-middle.ensures.1, c.loop-low.invariant.2),
    )
