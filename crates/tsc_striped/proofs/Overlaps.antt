-- Two spans that overlap do so in a stripe that both touch.
use Rattle.std.proofs.Common.{◌≡◌, ◌∙◌, inl, inr, refl, sym, ap, subst, Bool, true, false, not}
use Rattle.std.proofs.Common.{ℕ, ◌+◌, ◌≤◌, List, [], ◌∷◌, length, arith}
use Rattle.std.specs.Prelude.{count_by, cond, slice_index_or}
use mathlib.Core.Bool.{true≢false}
use Rattle.std.proofs.lemmas.Bool.{cases_Bool}
use Rattle.std.proofs.lemmas.List.Sums.{sum_by-cons}
use Rattle.tsc_span.specs.Span.{KeyBytes, Cut, before, last, is_below, greater_cut, smaller_cut}
use Rattle.tsc_span.specs.Span.{SpanView, nothing, between, overlaps}
use Rattle.tsc_span.proofs.CutOrder.{Lt, Le, Lt-or_Le, Le-itself, Le-from_Lt, Le-chain}
use Rattle.tsc_span.proofs.CutOrder.{Le_Lt-chain, Lt_Le-chain, none_above_last, overlaps-from}
use Rattle.tsc_span.proofs.CutOrder.{overlaps-reports}
use Rattle.tsc_stripe_table.specs.Stripes.{stripe_start, stripe_end, piece_of}
use Rattle.tsc_striped.specs.Touching.{are_in_order, stripe_above, stripe_below, first_touched}
use Rattle.tsc_striped.specs.Touching.{last_touched}
use Rattle.tsc_striped.proofs.Counting.{above_falls, is_high}
use Rattle.tsc_striped.proofs.Touches.{bound_is, bound_past, in_or_past, starts_low}

-- what passes one test passes another one: then no fewer do
fewer : (p q : KeyBytes → Bool) → ((k : KeyBytes) → p k ≡ true → q k ≡ true)
    → (ks : List KeyBytes) → count_by p ks ≤ count_by q ks
fewer p q implies [] = omega arith
fewer p q implies (k ∷ ks) =
    let one = sum_by-cons (λ (x : KeyBytes). cond (p x) 1 0) k ks in
    let other = sum_by-cons (λ (x : KeyBytes). cond (q x) 1 0) k ks in
    let more = fewer p q implies ks in
    elim (cases_Bool (p k)) [
      | inl is ↦ omega (
        arith,
        more,
        one ∙ ap (λ (b : Bool). cond b 1 0 + count_by p ks) is,
        other ∙ ap (λ (b : Bool). cond b 1 0 + count_by q ks) (implies k is),
      )
      | inr isnt ↦ omega (
        arith,
        more,
        one ∙ ap (λ (b : Bool). cond b 1 0 + count_by p ks) isnt,
        other,
      )
    ]

not_above : (b : Bool) → not b ≡ true → b ≡ false
not_above true e = sym e
not_above false e = refl

-- a higher place lies above no fewer bounds
pub above_rises : (ks : List KeyBytes) (c g : Cut) → Le c g → stripe_above ks c ≤ stripe_above ks g
above_rises ks c g le =
    fewer (λ k. not (is_below c (before k))) (λ k. not (is_below g (before k)))
    (λ k e. ap not (Le-chain (before k) c g (not_above (is_below c (before k)) e) le)) ks

pub below_rises : (ks : List KeyBytes) (c g : Cut) → Le c g → stripe_below ks c ≤ stripe_below ks g
below_rises ks c g le =
    fewer (λ k. is_below (before k) c) (λ k. is_below (before k) g)
    (λ k e. Lt_Le-chain (before k) c g e le) ks

-- and one below another lies above no more than those below that
above_below : (ks : List KeyBytes) (g d : Cut) → Lt g d → stripe_above ks g ≤ stripe_below ks d
above_below ks g d lt =
    fewer (λ k. not (is_below g (before k))) (λ k. is_below (before k) d)
    (λ k e. Le_Lt-chain (before k) g d (not_above (is_below g (before k)) e) lt) ks

-- a place lies below the end of the stripe right above it
ends_high : (ks : List KeyBytes) (g d : Cut) → are_in_order ks ≡ true → Lt g d
    → Lt g (stripe_end ks (stripe_above ks g))
ends_high ks g d up lt =
    let i : ℕ = stripe_above ks g in
    elim (in_or_past i (length ks)) [
      | inl within ↦ subst (λ (b : Cut). Lt g b) (sym (bound_is ks i within))
          (not_not (is_below g (before (slice_index_or ks i [])))
          (is_high (λ k. not (is_below g (before k))) (above_falls g) ks i [] up within
          (omega arith)))
      | inr past ↦ subst (λ (b : Cut). Lt g b) (sym (bound_past ks i past))
          (Lt_Le-chain g d last lt (none_above_last d))
    ]
  where
    not_not : (b : Bool) → not b ≡ false → b ≡ true
    not_not true e = refl
    not_not false e = sym e

pub greater_least : (a b c : Cut) → Le a c → Le b c → Le (greater_cut a b) c
greater_least a b c p q = elim (Lt-or_Le a b) [
  | inl lt ↦ rw lt q
  | inr ge ↦ rw ge p
]

pub smaller_most : (a b c : Cut) → Lt c a → Lt c b → Lt c (smaller_cut a b)
smaller_most a b c p q = elim (Lt-or_Le a b) [
  | inl lt ↦ rw lt p
  | inr ge ↦ rw ge q
]

pub smaller_first_ : (a b : Cut) → Le (smaller_cut a b) a
smaller_first_ a b = elim (Lt-or_Le a b) [
  | inl lt ↦ rw lt (Le-itself a)
  | inr ge ↦ rw ge ge
]

pub greater_first : (a b : Cut) → Le a (greater_cut a b)
greater_first a b = elim (Lt-or_Le a b) [
  | inl lt ↦ rw lt (Le-from_Lt a b lt)
  | inr ge ↦ rw ge (Le-itself a)
]

pub greater_second_ : (a b : Cut) → Le b (greater_cut a b)
greater_second_ a b = elim (Lt-or_Le a b) [
  | inl lt ↦ rw lt (Le-itself b)
  | inr ge ↦ rw ge ge
]

greater_below : (a b c : Cut) → Lt a c → Lt b c → Lt (greater_cut a b) c
greater_below a b c p q = elim (Lt-or_Le a b) [
  | inl lt ↦ rw lt q
  | inr ge ↦ rw ge p
]

-- The stripe in which two spans overlap, and what lies of the first one there.
pub record MeetsIn (bounds : List KeyBytes) (t s : SpanView) : Type 0 where
  pub stripe : ℕ
  pub first : first_touched bounds s ≤ stripe
  pub last_ : stripe ≤ last_touched bounds s
  pub from : Cut
  pub to : Cut
  pub piece : piece_of bounds stripe t ≡ between from to
  pub over : overlaps (between from to) s ≡ true

pub meets_in : (bounds : List KeyBytes) (t s : SpanView) → are_in_order bounds ≡ true
    → overlaps t s ≡ true → MeetsIn bounds t s
meets_in bounds nothing s up over = absurd (true≢false (sym over))
meets_in bounds (between a b) nothing up over = absurd (true≢false (sym over))
meets_in bounds (between a b) (between c d) up over =
    let m = overlaps-reports a b c d over in
    let g : Cut = greater_cut a c in
    let i : ℕ = stripe_above bounds g in
    let start : Cut = stripe_start bounds i in
    let end : Cut = stripe_end bounds i in
    let below_b : Lt g b = greater_below a c b m.0 m.2 in
    let below_d : Lt g d = greater_below a c d m.1 m.3 in
    let low : Le (greater_cut a start) g =
    greater_least a start g (greater_first a c) (starts_low bounds i g up (omega arith)) in
    let high : Lt g (smaller_cut b end) =
    smaller_most b end g below_b (ends_high bounds g d up below_d) in
    let is : is_below (greater_cut a start) (smaller_cut b end) ≡ true =
    Le_Lt-chain (greater_cut a start) g (smaller_cut b end) low high in record {
      stripe = i;
      first = above_rises bounds c g (greater_second_ a c);
      last_ = above_below bounds g d below_d;
      from = greater_cut a start;
      to = smaller_cut b end;
      piece = rw is refl;
      over = overlaps-from (greater_cut a start) (smaller_cut b end) c d (
        is,
        Le_Lt-chain (greater_cut a start) g d low below_d,
        Le_Lt-chain c g (smaller_cut b end) (greater_second_ a c) high,
        m.3,
      );
    }

-- Where two spans overlap, and what lies of both of them there.
pub record MeetsAt (bounds : List KeyBytes) (t s : SpanView) : Type 0 where
  pub start : Cut
  pub stop : Cut
  pub meet : MeetsIn bounds t (between start stop)
  pub first : first_touched bounds s ≤ meet.stripe
  pub last_ : meet.stripe ≤ last_touched bounds s
  pub part : piece_of bounds meet.stripe s ≡ between start stop
  pub below : Lt start stop

pub meets_at : (bounds : List KeyBytes) (t s : SpanView) → are_in_order bounds ≡ true
    → overlaps t s ≡ true → MeetsAt bounds t s
meets_at bounds nothing s up over = absurd (true≢false (sym over))
meets_at bounds (between a b) nothing up over = absurd (true≢false (sym over))
meets_at bounds (between a b) (between c d) up over =
    let m = overlaps-reports a b c d over in
    let g : Cut = greater_cut a c in
    let i : ℕ = stripe_above bounds g in
    let start : Cut = stripe_start bounds i in
    let end : Cut = stripe_end bounds i in
    let below_b : Lt g b = greater_below a c b m.0 m.2 in
    let below_d : Lt g d = greater_below a c d m.1 m.3 in
    let starts : Le start g = starts_low bounds i g up (omega arith) in
    let ends : Lt g end = ends_high bounds g d up below_d in
    let low_a : Le (greater_cut a start) g = greater_least a start g (greater_first a c) starts in
    let low_c : Le (greater_cut c start) g = greater_least c start g (greater_second_ a c) starts in
    let high_b : Lt g (smaller_cut b end) = smaller_most b end g below_b ends in
    let high_d : Lt g (smaller_cut d end) = smaller_most d end g below_d ends in
    let of_t : is_below (greater_cut a start) (smaller_cut b end) ≡ true =
    Le_Lt-chain (greater_cut a start) g (smaller_cut b end) low_a high_b in
    let of_s : is_below (greater_cut c start) (smaller_cut d end) ≡ true =
    Le_Lt-chain (greater_cut c start) g (smaller_cut d end) low_c high_d in record {
      start = greater_cut c start;
      stop = smaller_cut d end;
      meet = record {
        stripe = i;
        first = above_rises bounds (greater_cut c start) g low_c;
        last_ = above_below bounds g (smaller_cut d end) high_d;
        from = greater_cut a start;
        to = smaller_cut b end;
        piece = rw of_t refl;
        over = overlaps-from (greater_cut a start) (smaller_cut b end) (greater_cut c start)
            (smaller_cut d end) (
              of_t,
              Le_Lt-chain (greater_cut a start) g (smaller_cut d end) low_a high_d,
              Le_Lt-chain (greater_cut c start) g (smaller_cut b end) low_c high_b,
              of_s,
            );
      };
      first = above_rises bounds c g (greater_second_ a c);
      last_ = above_below bounds g d below_d;
      part = rw of_s refl;
      below = of_s;
    }
