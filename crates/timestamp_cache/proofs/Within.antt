-- Spans within others, by their cuts, and which marks overlap them.
use Rattle.std.proofs.Common.{◌≡◌, ◌⊎◌, ◌∙◌, inl, inr, refl, sym, Bool, true, false, not, ap, ◌&&◌}
use Rattle.std.proofs.lemmas.Bool.{cases_Bool, both_ways, and_parts, and_from}
use Rattle.tsc_span.specs.Span.{KeyBytes, Cut, before, after, last, is_below, SpanView, nothing, between, overlaps, covers}
use Rattle.tsc_span.proofs.Overlaps.{is_below-opposite, no_lower-transitive, overlaps-each}
use Rattle.timestamp_cache.specs.HandOver.{IsWithin}
use Rattle.timestamp_cache.specs.Stretches.{IsBeside}

-- no cut is below itself
pub is_below-itself : (a : Cut) → is_below a a ≡ false
is_below-itself a = elim (cases_Bool (is_below a a)) [ inl h ↦ is_below-opposite a a h | inr h ↦ h ]

-- below one that is no higher than a third
pub below_upto : (a b c : Cut) → is_below a b ≡ true → is_below c b ≡ false → is_below a c ≡ true
below_upto a b c p q = elim (cases_Bool (is_below a c))
    [ inl h ↦ h | inr h ↦ absurd (both_ways (is_below a b) (no_lower-transitive b c a q h) p) ]

-- no higher than one that is below a third
pub upto_below : (a b c : Cut) → is_below b a ≡ false → is_below b c ≡ true → is_below a c ≡ true
upto_below a b c p q = elim (cases_Bool (is_below a c))
    [ inl h ↦ h | inr h ↦ absurd (both_ways (is_below b c) (no_lower-transitive c a b h p) q) ]

-- nothing lies above the last cut
pub none_above_last : (c : Cut) → is_below last c ≡ false
none_above_last (before k) = refl
none_above_last (after k) = refl
none_above_last last = refl

-- two spans overlap where neither is inverted and each begins before the other stops
pub overlaps_from : (a b first stop : Cut) → is_below a b ≡ true → is_below a stop ≡ true →
    is_below first b ≡ true → is_below first stop ≡ true →
    overlaps (between a b) (between first stop) ≡ true
overlaps_from a b first stop p q r s = overlaps-each a b first stop ∙
    and_from _ _ (and_from _ _ p q) (and_from _ _ r s)

-- and only there
pub overlaps_reports : (a b first stop : Cut) → overlaps (between a b) (between first stop) ≡ true
    → (is_below a b ≡ true) × (is_below a stop ≡ true) × (is_below first b ≡ true) ×
    (is_below first stop ≡ true)
overlaps_reports a b first stop over =
    let both = and_parts (is_below a b && is_below a stop) (is_below first b && is_below first stop)
    (sym (overlaps-each a b first stop) ∙ over) in
    let left = and_parts (is_below a b) (is_below a stop) both.0 in
    let right = and_parts (is_below first b) (is_below first stop) both.1 in
    (left.0, left.1, right.0, right.1)

-- what overlaps a span within another overlaps that one
pub overlaps_wider : (m inner outer : SpanView) → IsWithin inner outer → overlaps m inner ≡ true →
    overlaps m outer ≡ true
overlaps_wider nothing inner outer w over = over
overlaps_wider (between a b) nothing outer w over = absurd w
overlaps_wider (between a b) (between first stop) nothing w over = absurd w
overlaps_wider (between a b) (between first stop) (between from to) w over =
    let is = overlaps_reports a b first stop over in
    overlaps_from a b from to is.0 (below_upto a stop to is.1 w.2)
    (upto_below from first b w.1 is.2)
    (below_upto from stop to (upto_below from first stop w.1 w.0) w.2)

-- a span within another overlaps that one, as seen from either
pub within_overlaps : (inner outer : SpanView) → IsWithin inner outer → overlaps outer inner ≡ true
within_overlaps nothing outer w = absurd w
within_overlaps (between first stop) nothing w = absurd w
within_overlaps (between first stop) (between from to) w =
    let wide : is_below from stop ≡ true = upto_below from first stop w.1 w.0 in
    overlaps_from from to first stop (below_upto from stop to wide w.2) wide
    (below_upto first stop to w.0 w.2) w.0

-- each key of a span within another is one of that
pub covers_wider : (inner outer : SpanView) (k : KeyBytes) → IsWithin inner outer →
    covers inner k ≡ true → covers outer k ≡ true
covers_wider nothing outer k w c = absurd w
covers_wider (between first stop) nothing k w c = absurd w
covers_wider (between first stop) (between from to) k w c =
    let both = and_parts (not (is_below (before k) first)) (not (is_below stop (after k))) c in
    and_from _ _ (ap not (no_lower-transitive from first (before k) w.1 (untrue _ both.0)))
    (ap not (no_lower-transitive (after k) stop to (untrue _ both.1) w.2))
  where
    untrue : (b : Bool) → not b ≡ true → b ≡ false
    untrue true h = sym h
    untrue false h = refl

-- a span that stops where another begins or before doesn't overlap it
pub apart : (a b first stop : Cut) → is_below first b ≡ false →
    overlaps (between a b) (between first stop) ≡ true → ⊥
apart a b first stop below over = both_ways (is_below first b) below
    (overlaps_reports a b first stop over).2

pub apart_above : (a b first stop : Cut) → is_below a stop ≡ false →
    overlaps (between a b) (between first stop) ≡ true → ⊥
apart_above a b first stop above over =
    both_ways (is_below a stop) above (overlaps_reports a b first stop over).1

-- what overlaps a span that reaches over a cut overlaps one of its two parts
pub either_part : (m : SpanView) (first at stop : Cut) → is_below first at ≡ true →
    is_below at stop ≡ true → overlaps m (between first stop) ≡ true
    → (overlaps m (between first at) ≡ true) ⊎ (overlaps m (between at stop) ≡ true)
either_part nothing first at stop low high over = inl over
either_part (between a b) first at stop low high over =
    let is = overlaps_reports a b first stop over in
    elim (cases_Bool (is_below a at)) [
      | inl h ↦ inl (overlaps_from a b first at is.0 h is.2 low)
      | inr h ↦ inr (overlaps_from a b at stop is.0 is.1 (upto_below at a b h is.0) high)
    ]

-- neither cut of a span lies between two others
abbrev pub AreBeside : Cut → Cut → SpanView → Type 0
AreBeside at end nothing = Unit {0}
AreBeside at end (between a b) = IsBeside at end a × IsBeside at end b

-- A span none of whose cuts lies within a stretch overlaps all of the stretch where it overlaps any
-- of it.
pub overlaps_whole : (m : SpanView) (at end first stop : Cut) → AreBeside at end m →
    is_below at end ≡ true → is_below first at ≡ false → is_below end stop ≡ false →
    overlaps m (between at end) ≡ true
    → is_below first stop ≡ true → overlaps m (between first stop) ≡ true
overlaps_whole nothing at end first stop beside rises low high over some = over
overlaps_whole (between a b) at end first stop beside rises low high over some =
    let is = overlaps_reports a b at end over in
    overlaps_from a b first stop is.0
    (upto_below a at stop (not_above a beside.0 is.1) (upto_below at first stop low some))
    (below_upto first end b (below_upto first stop end some high)
    (not_below b beside.1 is.2)) some
  where
    not_above : (c : Cut) → IsBeside at end c → is_below c end ≡ true → is_below at c ≡ false
    not_above c out under = elim (cases_Bool (is_below at c))
        [ inl h ↦ absurd (both_ways (is_below c end) (out h) under) | inr h ↦ h ]

    not_below : (c : Cut) → IsBeside at end c → is_below at c ≡ true → is_below c end ≡ false
    not_below c out over_at = out over_at
