-- How many bounds stand below a place: they are the first ones.
use Rattle.std.proofs.Common.{◌≡◌, ◌∙◌, inl, inr, refl, sym, ap, Bool, true, false, not, ℕ, zero}
use Rattle.std.proofs.Common.{suc, ◌+◌, ◌<◌, ◌≤◌, List, [], ◌∷◌, length, arith}
use Rattle.std.specs.Prelude.{count_by, cond, slice_index_or}
use mathlib.Core.Bool.{true≢false}
use Rattle.std.proofs.lemmas.Bool.{cases_Bool, and_parts}
use Rattle.std.proofs.lemmas.List.Sums.{sum_by-cons}
use Rattle.tsc_span.specs.Span.{KeyBytes, Cut, before, is_below}
use Rattle.tsc_span.proofs.CutOrder.{Le-chain, Le-from_Lt, Lt-chain}
use Rattle.tsc_striped.specs.Touching.{ascend, are_in_order, stripe_above, stripe_below}

-- a test that fails for a key fails for each one above it
abbrev pub Falls : (KeyBytes → Bool) → Type 0
Falls p = (k m : KeyBytes) → is_below (before k) (before m) ≡ true → p k ≡ false → p m ≡ false

pub above_falls : (c : Cut) → Falls (λ k. not (is_below c (before k)))
above_falls c k m up fails_ = elim (cases_Bool (is_below c (before k))) [
  | inl is ↦ ap not (Lt-chain c (before k) (before m) is up)
  | inr isnt ↦ absurd (true≢false (sym (ap not isnt) ∙ fails_))
]

pub below_falls : (c : Cut) → Falls (λ k. is_below (before k) c)
below_falls c k m up fails_ = Le-chain c (before k) (before m) fails_
    (Le-from_Lt (before k) (before m) up)

one_of : Bool → ℕ
one_of b = cond b 1 0

module _ (p : KeyBytes → Bool) (falls : Falls p) where
  counted : (k : KeyBytes) (ks : List KeyBytes) → count_by p (k ∷ ks) ≡ cond (p k) 1 0 + count_by p ks
  counted k ks = sum_by-cons (λ (x : KeyBytes). cond (p x) 1 0) k ks

  none_above : (k : KeyBytes) (ks : List KeyBytes) → ascend k ks ≡ true → p k ≡ false
      → count_by p ks ≡ 0
  none_above k [] up fails_ = refl
  none_above k (m ∷ ks) up fails_ =
      let parts = and_parts (is_below (before k) (before m)) (ascend m ks) up in
      let other : p m ≡ false = falls k m parts.0 fails_ in
      omega (
        arith,
        counted m ks ∙ ap (λ (b : Bool). cond b 1 0 + count_by p ks) other,
        none_above m ks parts.1 other,
      )

  -- a key for which the test holds is among the first ones
  pub low : (least : KeyBytes) (ks : List KeyBytes) (j : ℕ) (d : KeyBytes) → ascend least ks ≡ true
      → j < length ks → p (slice_index_or ks j d) ≡ true → j < count_by p ks
  low least [] j d up in_range passes = absurd (omega (arith, in_range))
  low least (k ∷ ks) zero d up in_range passes =
      omega (arith, counted k ks ∙ ap (λ (b : Bool). cond b 1 0 + count_by p ks) passes)
  low least (k ∷ ks) (suc j) d up in_range passes =
      let parts = and_parts (is_below (before least) (before k)) (ascend k ks) up in
      let more : j < count_by p ks = low k ks j d parts.1 (omega (arith, in_range)) passes in
      elim (cases_Bool (p k)) [
        | inl is ↦ omega (
          arith,
          more,
          counted k ks ∙ ap (λ (b : Bool). cond b 1 0 + count_by p ks) is,
        )
        | inr isnt ↦ absurd (omega (arith, more, none_above k ks parts.1 isnt))
      ]

  -- and any other key is none of them
  pub high : (least : KeyBytes) (ks : List KeyBytes) (j : ℕ) (d : KeyBytes) → ascend least ks ≡ true
      → j < length ks → p (slice_index_or ks j d) ≡ false → count_by p ks ≤ j
  high least [] j d up in_range fails_ = absurd (omega (arith, in_range))
  high least (k ∷ ks) zero d up in_range fails_ =
      let parts = and_parts (is_below (before least) (before k)) (ascend k ks) up in
      omega (
        arith,
        none_above k ks parts.1 fails_,
        counted k ks ∙ ap (λ (b : Bool). cond b 1 0 + count_by p ks) fails_,
      )
  high least (k ∷ ks) (suc j) d up in_range fails_ =
      let parts = and_parts (is_below (before least) (before k)) (ascend k ks) up in
      let more : count_by p ks ≤ j = high k ks j d parts.1 (omega (arith, in_range)) fails_ in
      elim (cases_Bool (p k)) [
        | inl is ↦ omega (
          arith,
          more,
          counted k ks ∙ ap (λ (b : Bool). cond b 1 0 + count_by p ks) is,
        )
        | inr isnt ↦ omega (
          arith,
          more,
          counted k ks ∙ ap (λ (b : Bool). cond b 1 0 + count_by p ks) isnt,
        )
      ]

  -- there are no more of them than bounds
  pub at_most : (ks : List KeyBytes) → count_by p ks ≤ length ks
  at_most [] = omega arith
  at_most (k ∷ ks) = elim (cases_Bool (p k)) [
    | inl is ↦ omega (
      arith,
      at_most ks,
      counted k ks ∙ ap (λ (b : Bool). cond b 1 0 + count_by p ks) is,
    )
    | inr isnt ↦ omega (
      arith,
      at_most ks,
      counted k ks ∙ ap (λ (b : Bool). cond b 1 0 + count_by p ks) isnt,
    )
  ]

  -- so the test tells which keys are among them
  pub is_low : (ks : List KeyBytes) (j : ℕ) (d : KeyBytes) → are_in_order ks ≡ true
      → j < count_by p ks → p (slice_index_or ks j d) ≡ true
  is_low ks j d up less = elim (cases_Bool (p (slice_index_or ks j d))) [
    | inl is ↦ is
    | inr isnt ↦ absurd (omega (
      arith,
      less,
      high [] ks j d up (omega (arith, less, at_most ks)) isnt,
    ))
  ]

  pub is_high : (ks : List KeyBytes) (j : ℕ) (d : KeyBytes) → are_in_order ks ≡ true
      → j < length ks → count_by p ks ≤ j → p (slice_index_or ks j d) ≡ false
  is_high ks j d up in_range more = elim (cases_Bool (p (slice_index_or ks j d))) [
    | inl is ↦ absurd (omega (arith, more, low [] ks j d up in_range is))
    | inr isnt ↦ isnt
  ]

-- what a look at one bound tells of the stripe above a place
pub above_high : (ks : List KeyBytes) (c : Cut) (middle : ℕ) (k : KeyBytes) → are_in_order ks ≡ true
    → middle < length ks → k ≡ slice_index_or ks middle k → is_below c (before k) ≡ true
    → stripe_above ks c ≤ middle
above_high ks c middle k up low is below =
    high (λ x. not (is_below c (before x))) (above_falls c) [] ks middle k up low
    (ap (λ x. not (is_below c (before x))) (sym is) ∙ ap not below)

pub above_low : (ks : List KeyBytes) (c : Cut) (middle : ℕ) (k : KeyBytes) → are_in_order ks ≡ true
    → middle < length ks → k ≡ slice_index_or ks middle k → is_below c (before k) ≡ false
    → middle < stripe_above ks c
above_low ks c middle k up low_ is below =
    low (λ x. not (is_below c (before x))) (above_falls c) [] ks middle k up low_
    (ap (λ x. not (is_below c (before x))) (sym is) ∙ ap not below)

-- and of the stripe below it
pub below_low : (ks : List KeyBytes) (c : Cut) (middle : ℕ) (k : KeyBytes) → are_in_order ks ≡ true
    → middle < length ks → k ≡ slice_index_or ks middle k → is_below (before k) c ≡ true
    → middle < stripe_below ks c
below_low ks c middle k up low_ is below =
    low (λ x. is_below (before x) c) (below_falls c) [] ks middle k up low_
    (ap (λ x. is_below (before x) c) (sym is) ∙ below)

pub below_high : (ks : List KeyBytes) (c : Cut) (middle : ℕ) (k : KeyBytes) → are_in_order ks ≡ true
    → middle < length ks → k ≡ slice_index_or ks middle k → is_below (before k) c ≡ false
    → stripe_below ks c ≤ middle
below_high ks c middle k up low_ is below =
    high (λ x. is_below (before x) c) (below_falls c) [] ks middle k up low_
    (ap (λ x. is_below (before x) c) (sym is) ∙ below)
