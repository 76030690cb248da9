-- A span that touches one stripe lies there, and nowhere else.
use Rattle.std.proofs.Common.{◌≡◌, ◌≢◌, ◌⊎◌, ◌∙◌, inl, inr, refl, sym, ap, subst, Bool, true, false, not}
use Rattle.std.proofs.Common.{ℕ, zero, suc, ◌<◌, ◌≤◌, List, [], ◌∷◌, length, arith}
use Rattle.std.specs.Prelude.{slice_index_or, slice_get, nat_lt}
use Rattle.std.specs.declared.cmp.Ordering.{Ordering}
use Rattle.std.specs.declared.cmp.Ordering.TheVariants.{Less, Equal, Greater}
use Rattle.std.specs.Ordering.{is_lt, ordering_reverse}
use mathlib.Core.Bool.{true≢false}
use Rattle.std.proofs.lemmas.Bool.Decides.{nat_tests}
use Rattle.tsc_span.specs.Span.{KeyBytes, Cut, before, last, cut_cmp, is_below, greater_cut}
use Rattle.tsc_span.specs.Span.{smaller_cut, SpanView, nothing, between}
use Rattle.tsc_span.specs.MadeSpan.{IsMadeSpan}
use Rattle.tsc_span.proofs.CutsTotal.{cut_cmp-total, cut_cmp-same}
use Rattle.tsc_span.proofs.CutOrder.{Lt, Le, Lt-or_Le, Le-itself, Le-from_Lt}
use Rattle.tsc_span.proofs.CutOrder.{Le-chain, none_above_last}
use Rattle.tsc_page_nodes.proofs.Cuts.{lowest}
use Rattle.tsc_stripe_table.specs.Stripes.{at_bound, stripe_start, stripe_end, piece_between, piece_of}
use Rattle.tsc_striped.specs.Touching.{are_in_order, stripe_above, stripe_below, first_touched}
use Rattle.tsc_striped.specs.Touching.{last_touched}
use Rattle.tsc_striped.specs.Moves.{LiesIn}
use Rattle.tsc_striped.proofs.Counting.{above_falls, below_falls, is_low, is_high, at_most}

-- the bound at an index, and the place above all keys behind them
pub bound_is : (ks : List KeyBytes) (j : ℕ) → j < length ks
    → at_bound (slice_get ks j) ≡ before (slice_index_or ks j [])
bound_is [] j low = absurd (omega (arith, low))
bound_is (k ∷ ks) zero low = refl
bound_is (k ∷ ks) (suc j) low = bound_is ks j (omega (arith, low))

pub bound_past : (ks : List KeyBytes) (j : ℕ) → length ks ≤ j → at_bound (slice_get ks j) ≡ last
bound_past [] j past = refl
bound_past (k ∷ ks) zero past = absurd (omega (arith, past))
bound_past (k ∷ ks) (suc j) past = bound_past ks j (omega (arith, past))

pub in_or_past : (j n : ℕ) → (j < n) ⊎ (n ≤ j)
in_or_past j n = by_test (nat_lt j n) refl
  where
    by_test : (t : Bool) → nat_lt j n ≡ t → (j < n) ⊎ (n ≤ j)
    by_test true is = inl (grind (arith, nat_tests))
    by_test false is = inr (grind (arith, nat_tests))

-- two cuts of which neither is below the other are the same
same_cut : (a b : Cut) → Le a b → Le b a → a ≡ b
same_cut a b p q =
    cut_cmp-same a b (equal (cut_cmp a b) (cut_cmp b a) (cut_cmp-total.antisymm b a) p q)
  where
    equal : (forth back : Ordering) → back ≡ ordering_reverse forth → is_lt back ≡ false
        → is_lt forth ≡ false → forth ≡ Equal
    equal Less back is p q = absurd (true≢false q)
    equal Equal back is p q = refl
    equal Greater back is p q = absurd (true≢false (sym (ap is_lt is) ∙ p))

-- the first bounds stand no higher than the place
pub low_bound : (ks : List KeyBytes) (j : ℕ) (c : Cut) → are_in_order ks ≡ true
    → j < stripe_above ks c → Le (at_bound (slice_get ks j)) c
low_bound ks j c up less =
    let test = is_low (λ k. not (is_below c (before k))) (above_falls c) ks j [] up less in
    subst (λ (b : Cut). Le b c) (sym (bound_is ks j (omega (
      arith,
      less,
      at_most (λ k. not (is_below c (before k))) (above_falls c) ks,
    ))))
    (not_true (is_below c (before (slice_index_or ks j []))) test)
  where
    not_true : (b : Bool) → not b ≡ true → b ≡ false
    not_true true e = sym e
    not_true false e = refl

-- and the others do not stand below it
pub high_bound : (ks : List KeyBytes) (j : ℕ) (c : Cut) → are_in_order ks ≡ true
    → stripe_below ks c ≤ j → Le c (at_bound (slice_get ks j))
high_bound ks j c up more = elim (in_or_past j (length ks)) [
  | inl within ↦ subst (λ (b : Cut). Le c b) (sym (bound_is ks j within))
      (is_high (λ k. is_below (before k) c) (below_falls c) ks j [] up within more)
  | inr past ↦ subst (λ (b : Cut). Le c b) (sym (bound_past ks j past)) (none_above_last c)
]

-- a stripe that is not above that of what lies above a place starts no higher
pub starts_low : (ks : List KeyBytes) (i : ℕ) (c : Cut) → are_in_order ks ≡ true
    → i ≤ stripe_above ks c → Le (stripe_start ks i) c
starts_low ks zero c up le = lowest c
starts_low ks (suc j) c up le = low_bound ks j c up (omega (arith, le))

-- the greater of two cuts is the second where the first is no higher
greater_second : (a b : Cut) → Le b a → greater_cut a b ≡ a
greater_second a b le = rw le refl

-- and the smaller of two is the first where that is no higher
smaller_first : (a b : Cut) → Le a b → smaller_cut a b ≡ a
smaller_first a b le = elim (Lt-or_Le a b) [
  | inl lt ↦ rw lt refl
  | inr ge ↦ rw ge (same_cut b a ge le)
]

pub piece_whole : (s e from to : Cut) → Le s from → Le to e → Lt from to
    → piece_between s e (between from to) ≡ between from to
piece_whole s e from to low high lt = rw (greater_second from s low, smaller_first to e high, lt) refl

-- nothing lies in a stripe that stops below a span, or starts above it
greater_no_lower : (a b c : Cut) → Le c a → Le c (greater_cut a b)
greater_no_lower a b c le = elim (Lt-or_Le a b) [
  | inl lt ↦ rw lt (Le-chain c a b le (Le-from_Lt a b lt))
  | inr ge ↦ rw ge le
]

greater_no_lower_than_second : (a b c : Cut) → Le c b → Le c (greater_cut a b)
greater_no_lower_than_second a b c le = elim (Lt-or_Le a b) [
  | inl lt ↦ rw lt le
  | inr ge ↦ rw ge (Le-chain c b a le ge)
]

smaller_no_higher : (a b c : Cut) → Le a c → Le (smaller_cut a b) c
smaller_no_higher a b c le = elim (Lt-or_Le a b) [
  | inl lt ↦ rw lt le
  | inr ge ↦ rw ge (Le-chain b a c ge le)
]

smaller_no_higher_than_second : (a b c : Cut) → Le b c → Le (smaller_cut a b) c
smaller_no_higher_than_second a b c le = elim (Lt-or_Le a b) [
  | inl lt ↦ rw lt (Le-chain a b c (Le-from_Lt a b lt) le)
  | inr ge ↦ rw ge le
]

pub piece_below : (s e from to : Cut) → Le e from → piece_between s e (between from to) ≡ nothing
piece_below s e from to le =
    let none : is_below (greater_cut from s) (smaller_cut to e) ≡ false =
    Le-chain (smaller_cut to e) from (greater_cut from s)
    (smaller_no_higher_than_second to e from le) (greater_no_lower from s from (Le-itself from)) in
    rw none refl

pub piece_above : (s e from to : Cut) → Le to s → piece_between s e (between from to) ≡ nothing
piece_above s e from to le =
    let none : is_below (greater_cut from s) (smaller_cut to e) ≡ false =
    Le-chain (smaller_cut to e) to (greater_cut from s)
    (smaller_no_higher to e to (Le-itself to)) (greater_no_lower_than_second from s to le) in
    rw none refl

-- a span that touches one stripe lies there
pub lies_in_one : (ks : List KeyBytes) (span : SpanView) → are_in_order ks ≡ true
    → IsMadeSpan span → first_touched ks span ≡ last_touched ks span
    → LiesIn ks (first_touched ks span) span
lies_in_one ks nothing up made same = record { whole = refl; none = λ other apart. refl }
lies_in_one ks (between from to) up made same =
    let n : ℕ = stripe_above ks from in record {
      whole = piece_whole (stripe_start ks n) (stripe_end ks n) from to
          (starts_low ks n from up (omega arith)) (high_bound ks n to up (omega (arith, same)))
          made.2;
      none = λ other apart. elim (in_or_past other n) [
        | inl less ↦ piece_below (stripe_start ks other) (stripe_end ks other) from to
            (low_bound ks other from up less)
        | inr more ↦ above other more apart
      ];
    }
  where
    above : (other : ℕ) → stripe_above ks from ≤ other → other ≢ stripe_above ks from
        → piece_of ks other (between from to) ≡ nothing
    above zero more apart = absurd (apart (omega (arith, more)))
    above (suc j) more apart = piece_above (stripe_start ks (suc j)) (stripe_end ks (suc j)) from to
        (high_bound ks j to up (omega (arith, more, same, apart)))
