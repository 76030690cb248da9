-- The first line that is not that of its call.
use Rattle.std.proofs.Common.{◌≡◌, ◌⊎◌, inl, inr, ◌∙◌, sym, ap, subst, refl, ℕ, zero, suc, ◌+◌, max, ◌<◌, ◌≤◌, List, [], ◌∷◌, length, Bool, true, false, not, Option, Some, None, nat_lt, arith}
use Rattle.std.proofs.lemmas.Bool.Decides.{nat_tests}
use Rattle.tsc_check.specs.Verdict.{PlacedCall, is_line_of, is_wrong_call, or_this, least}
use Rattle.tsc_trace.specs.declared.log.Line.{Line}
use Rattle.tsc_check.specs.CheckParts.{first_other}
use Rattle.tsc_check.proofs.Places.{tested}

-- no number below a bound passes
abbrev pub NoneBelow : (ℕ → Bool) → ℕ → Type 0
NoneBelow test n = (i : ℕ) → i < n → test i ≡ false

-- the least number at which a test gives true
abbrev pub IsLeastAt : (ℕ → Bool) → ℕ → ℕ → Type 0
IsLeastAt test n i = (i < n) × (test i ≡ true) × NoneBelow test i

pub least_none_below : (test : ℕ → Bool) (n : ℕ) → NoneBelow test n → least test n ≡ None
least_none_below test zero none = refl
least_none_below test (suc n) none =
    rw (least_none_below test n (λ i low. none i (omega (arith, low))), none n (omega arith)) refl

below_or_last : (i n : ℕ) → i < suc n → (i < n) ⊎ (i ≡ n)
below_or_last i n low = by_test (nat_lt i n) refl
  where
    by_test : (b : Bool) → nat_lt i n ≡ b → (i < n) ⊎ (i ≡ n)
    by_test true e = inl (grind (arith, nat_tests))
    by_test false e = inr (let above : n ≤ i = grind (arith, nat_tests) in omega
        (arith, above, low))

-- where a number passes, there is a least one
found : (test : ℕ → Bool) (n i : ℕ) → i < n → test i ≡ true → (k : ℕ) × (least test n ≡ Some k)
found test zero i low e = absurd (omega (arith, low))
found test (suc n) i low e = elim (below_or_last i n low) [
  | inl l ↦ let f = found test n i l e in (f.0, rw f.1 refl)
  | inr same ↦ last (least test n) (subst (λ j. test j ≡ true) same e)
]
  where
    last : (o : Option ℕ) → test n ≡ true → (k : ℕ) × (or_this test n o ≡ Some k)
    last None e = (n, rw e refl)
    last (Some k) e = (k, refl)

pub least_at : (test : ℕ → Bool) (n i : ℕ) → IsLeastAt test n i → least test n ≡ Some i
least_at test zero i at = absurd (omega (arith, at.0))
least_at test (suc n) i at = elim (below_or_last i n at.0) [
  | inl low ↦ rw (least_at test n i (low, at.1, at.2)) refl
  | inr same ↦ rw (
    least_none_below test n (λ j low. at.2 j (omega (arith, low, same))),
    ← same,
    at.1,
  ) refl
]

pub none_from_least : (test : ℕ → Bool) (n : ℕ) → least test n ≡ None → NoneBelow test n
none_from_least test n none i low = elim (tested (test i)) [
  | inr e ↦ e
  | inl e ↦ absurd (some_is_none (found test n i low e) none)
]
  where
    some_is_none : {o : Option ℕ} → ((k : ℕ) × (o ≡ Some k)) → o ≡ None → ⊥
    some_is_none f e = let g = f.1 in cc

-- what the first other line is, of calls and lines of which so many came before
abbrev IsFirstOther : List PlacedCall → List Line → ℕ → Option ℕ → Type 0
IsFirstOther cs ls before None = (length cs ≡ length ls) × ((j : ℕ) → is_wrong_call cs ls j ≡ false)
IsFirstOther cs ls before (Some i) = (k : ℕ) × (i ≡ before + k) ×
    (k < max (length cs) (length ls)) × (is_wrong_call cs ls k ≡ true) ×
    NoneBelow (is_wrong_call cs ls) k

one_more : (c : PlacedCall) (cs : List PlacedCall) (l : Line) (ls : List Line) (before : ℕ)
    (o : Option ℕ) → is_line_of c l ≡ true → IsFirstOther cs ls (suc before) o →
    IsFirstOther (c ∷ cs) (l ∷ ls) before o
one_more c cs l ls before None same f = (omega (arith, f.0), λ j. all j)
  where
    all : (j : ℕ) → is_wrong_call (c ∷ cs) (l ∷ ls) j ≡ false
    all zero = ap not same
    all (suc j) = f.1 j
one_more c cs l ls before (Some i) same f =
    (suc f.0, omega (arith, f.1), omega (arith, f.2), f.3, λ j low. all j low)
  where
    all : (j : ℕ) → j < suc f.0 → is_wrong_call (c ∷ cs) (l ∷ ls) j ≡ false
    all zero low = ap not same
    all (suc j) low = f.4 j (omega (arith, low))

first_is : (cs : List PlacedCall) (ls : List Line) (before : ℕ) →
    IsFirstOther cs ls before (first_other before cs ls)
first_is [] [] before = (refl, λ j. refl)
first_is [] (l ∷ ls) before = (
  0,
  omega arith,
  omega arith,
  refl,
  λ j low. absurd (omega (arith, low)),
)
first_is (c ∷ cs) [] before = (
  0,
  omega arith,
  omega arith,
  refl,
  λ j low. absurd (omega (arith, low)),
)
first_is (c ∷ cs) (l ∷ ls) before = elim (tested (is_line_of c l)) [
  | inl e ↦ rw e (one_more c cs l ls before (first_other (suc before) cs ls) e
      (first_is cs ls (suc before)))
  | inr e ↦ rw e (0, omega arith, omega arith, ap not e, λ j low. absurd (omega (arith, low)))
]

reported : (cs : List PlacedCall) (ls : List Line) (o : Option ℕ) → IsFirstOther cs ls 0 o →
    o ≡ least (is_wrong_call cs ls) (max (length cs) (length ls))
reported cs ls None f = sym (least_none_below (is_wrong_call cs ls) (max (length cs) (length ls))
    (λ i low. f.1 i))
reported cs ls (Some i) f =
    let n = max (length cs) (length ls) in
    ap Some (omega (arith, f.1)) ∙ sym (least_at (is_wrong_call cs ls) n f.0 (f.2, f.3, f.4))

-- it is the least line that fails the first test
pub first_is_least : (cs : List PlacedCall) (ls : List Line) →
    first_other 0 cs ls ≡ least (is_wrong_call cs ls) (max (length cs) (length ls))
first_is_least cs ls = reported cs ls (first_other 0 cs ls) (first_is cs ls 0)

-- where there is none, there are as many lines as calls
pub as_many : (cs : List PlacedCall) (ls : List Line) → first_other 0 cs ls ≡ None →
    length cs ≡ length ls
as_many cs ls none = (subst (IsFirstOther cs ls 0) none (first_is cs ls 0)).0

-- and no line fails the test
pub right_when_none : (cs : List PlacedCall) (ls : List Line) → first_other 0 cs ls ≡ None →
    (i : ℕ) → is_wrong_call cs ls i ≡ false
right_when_none cs ls none = (subst (IsFirstOther cs ls 0) none (first_is cs ls 0)).1

below_both : (cs : List PlacedCall) (ls : List Line) (i : ℕ) → IsFirstOther cs ls 0 (Some i) →
    i < max (length cs) (length ls)
below_both cs ls i f = omega (arith, f.1, f.2)

-- it is one of the lines or of the calls
pub first_below : (cs : List PlacedCall) (ls : List Line) (i : ℕ) → Some i ≡ first_other 0 cs ls →
    i < max (length cs) (length ls)
first_below cs ls i e = below_both cs ls i (subst (IsFirstOther cs ls 0) (sym e) (first_is cs ls 0))
