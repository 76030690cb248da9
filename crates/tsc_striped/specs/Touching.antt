-- Which stripes a span touches.
use Rattle.std.specs.Prelude.{ℕ, ◌+◌, ◌-◌, ◌≤◌, List, [], ◌∷◌, ◌&&◌, count_by, not, Bool, true}
use Rattle.tsc_span.specs.Span.{KeyBytes, Cut, before, is_below, SpanView, nothing, between}

-- whether each bound lies above the one before it, and the first one above a key
abbrev pub ascend : KeyBytes → List KeyBytes → Bool
ascend low [] = true
ascend low (k ∷ ks) = is_below (before low) (before k) && ascend k ks

-- whether bounds ascend, the first one above the empty key
abbrev pub are_in_order : List KeyBytes → Bool
are_in_order bounds = ascend [] bounds

-- the stripe of what lies right above a place: so many bounds do not lie above the place
abbrev pub stripe_above : List KeyBytes → Cut → ℕ
stripe_above bounds c = count_by (λ k. not (is_below c (before k))) bounds

-- the stripe of what lies right below a place: so many bounds lie below the place
abbrev pub stripe_below : List KeyBytes → Cut → ℕ
stripe_below bounds c = count_by (λ k. is_below (before k) c) bounds

-- the first stripe that a span touches; the empty span touches stripe 0
abbrev pub first_touched : List KeyBytes → SpanView → ℕ
first_touched bounds nothing = 0
first_touched bounds (between from to) = stripe_above bounds from

-- the last stripe that a span touches
abbrev pub last_touched : List KeyBytes → SpanView → ℕ
last_touched bounds nothing = 0
last_touched bounds (between from to) = stripe_below bounds to

-- A span touches a stripe: it is the first one that it touches, or one from there to the last.
pub record IsTouched (bounds : List KeyBytes) (span : SpanView) (stripe : ℕ) : Type 0 where
  pub from : first_touched bounds span ≤ stripe
  pub to : stripe ≤ first_touched bounds span
      + (last_touched bounds span - first_touched bounds span)
