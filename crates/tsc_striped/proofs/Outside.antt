-- Nothing of marks lies in the stripes that they do not touch.
use Rattle.std.proofs.Common.{◌≡◌, ◌⊎◌, inl, inr, refl, ap, true, ℕ, zero, suc, ◌+◌, ◌<◌}
use Rattle.std.proofs.Common.{List, length, take, get_or, arith, min, max}
use Rattle.tsc_span.specs.Span.{KeyBytes, SpanView, nothing, between}
use Rattle.tsc_page_model.specs.Page.{Mark}
use Rattle.tsc_stripe_table.specs.Stripes.{stripe_start, stripe_end, piece_of, mark_on}
use Rattle.tsc_striped.specs.Touching.{are_in_order, first_touched, last_touched}
use Rattle.tsc_striped.specs.Cutting.{LieWithin}
use Rattle.tsc_striped.proofs.Touches.{low_bound, high_bound, piece_below, piece_above}
use Rattle.tsc_striped.proofs.Cutting.{marks_none}

pub none_outside : (bounds : List KeyBytes) (span : SpanView) (stripe : ℕ)
    → are_in_order bounds ≡ true
    → (stripe < first_touched bounds span) ⊎ (last_touched bounds span < stripe)
    → piece_of bounds stripe span ≡ nothing
none_outside bounds nothing stripe up out = refl
none_outside bounds (between from to) stripe up (inl less) =
    piece_below (stripe_start bounds stripe) (stripe_end bounds stripe) from to
    (low_bound bounds stripe from up less)
none_outside bounds (between from to) zero up (inr more) = absurd (omega (arith, more))
none_outside bounds (between from to) (suc j) up (inr more) =
    piece_above (stripe_start bounds (suc j)) (stripe_end bounds (suc j)) from to
    (high_bound bounds j to up (omega (arith, more)))

-- one more mark
pub within_more : (bounds : List KeyBytes) (ms : List Mark) (k : ℕ) (m : Mark) (first last : ℕ)
    → are_in_order bounds ≡ true → k < length ms → m ≡ get_or ms k m
    → LieWithin bounds (take k ms) first last
    → LieWithin bounds (take (k + 1) ms) (min (first_touched bounds m.span) first)
    (max (last_touched bounds m.span) last)
within_more bounds ms k m first last up in_range is before stripe out =
    marks_none bounds stripe ms k m in_range is (before stripe (outside_before out))
    (ap (λ (span : SpanView). mark_on span m)
    (none_outside bounds m.span stripe up (outside_here out)))
  where
    outside_before : (stripe < min (first_touched bounds m.span) first)
        ⊎ (max (last_touched bounds m.span) last < stripe) → (stripe < first) ⊎ (last < stripe)
    outside_before (inl low) = inl (omega (arith, low))
    outside_before (inr high) = inr (omega (arith, high))

    outside_here : (stripe < min (first_touched bounds m.span) first)
        ⊎ (max (last_touched bounds m.span) last < stripe)
        → (stripe < first_touched bounds m.span) ⊎ (last_touched bounds m.span < stripe)
    outside_here (inl low) = inl (omega (arith, low))
    outside_here (inr high) = inr (omega (arith, high))

-- without marks nothing lies anywhere
pub within_none : (bounds : List KeyBytes) (ms : List Mark) (first last : ℕ)
    → LieWithin bounds (take 0 ms) first last
within_none bounds ms first last stripe out = refl
