-- Facts on numbers, truth values and lists of words.
use Rattle.std.proofs.Common.{◌≡◌, ◌≢◌, ◌⊎◌, ◌∙◌, inl, inr, refl, sym, ap, subst, true, false, Bool}
use Rattle.std.proofs.Common.{ℕ, zero, suc, ◌+◌, ◌<◌, ◌≤◌, List, [], ◌∷◌, ◌++◌, length, set, arith}
use Rattle.std.proofs.Common.{get_or-set_other, replicate, slice_index, slice_index_or}
use Rattle.std.specs.Prelude.{Option, Some, None, ◌==◌, nat_lt}
use Rattle.std.specs.List.{All, sum_by}
use Rattle.std.proofs.lemmas.List.{length-append, length_push}
use mathlib.Core.Option as maybe
use lib.ListN.{get_elem?}
use Rattle.std.proofs.lemmas.Bool.{lt-ltb}
use Rattle.std.proofs.lemmas.Bool.Decides.{nat_tests}
use Rattle.std.proofs.lemmas.List.Sums.{sum_by-cons}
use Rattle.tsc_left_right.specs.Rule.{one_if, epoch_word}

pub same_number : (a b : ℕ) → a ≡ b → (a == b) ≡ true
same_number a b is = grind (arith, nat_tests)

pub false_is_no : false ≡ true → ⊥
false_is_no e = omega (arith, ap one_if e)

pub at_most_one : (b : Bool) → one_if b ≤ 1
at_most_one true = omega arith
at_most_one false = omega arith

abbrev pub has_some : {A : Type 0} → Option A → Bool
has_some None = false
has_some (Some n) = true

pub none_is_no : {A : Type 0} (n : A) → None ≡ Some n → ⊥
none_is_no n e = false_is_no (ap has_some e)

pub busy_word : (n : ℕ) → n ≢ 0 → one_if (nat_lt 0 n) ≡ 1
busy_word n some = ap one_if (lt-ltb 0 n (omega (arith, some)))

pub some_same : {A : Type 0} (a b : A) → Some a ≡ Some b → a ≡ b
some_same {A} a b e = ap (λ (o : Option A). or_else o) e
  where
    or_else : Option A → A
    or_else None = a
    or_else (Some x) = x

-- The epochs stay where another word changes,
pub epoch_same : (words : List ℕ) (i y r : ℕ) → i < 32
    → slice_index (set words i y) (epoch_word r) ≡ slice_index words (epoch_word r)
epoch_same words i y r low = get_or-set_other words i (epoch_word r) y 0 (λ z. omega (
  arith,
  z,
  low,
))

pub other_number : (a b : ℕ) → a ≢ b → (a == b) ≡ false
other_number a b apart = grind (arith, nat_tests)

pub same_or_not : (a b : ℕ) → (a ≡ b) ⊎ (a ≢ b)
same_or_not a b = by_test (a == b) refl
  where
    by_test : (t : Bool) → (a == b) ≡ t → (a ≡ b) ⊎ (a ≢ b)
    by_test true is = inl (grind (arith, nat_tests))
    by_test false is = inr (grind (arith, nat_tests))

pub blank_at : (n i : ℕ) → slice_index (replicate n 0) i ≡ 0
blank_at zero i = refl
blank_at (suc n) zero = refl
blank_at (suc n) (suc i) = blank_at n i

-- f 0 + .. up to below n
abbrev pub below : ℕ → (ℕ → ℕ) → ℕ
below zero f = 0
below (suc n) f = below n f + f n

pub below_add : (n : ℕ) (f g : ℕ → ℕ) → below n (λ m. f m + g m) ≡ below n f + below n g
below_add zero f g = refl
below_add (suc n) f g = omega (arith, below_add n f g)

pub below_same : (n : ℕ) (f g : ℕ → ℕ) → ((m : ℕ) → f m ≡ g m) → below n f ≡ below n g
below_same zero f g same = refl
below_same (suc n) f g same = omega (arith, below_same n f g same, same n)

pub below_none : (n k : ℕ) → n ≤ k → below n (λ m. one_if (k == m)) ≡ 0
below_none zero k le = refl
below_none (suc n) k le = omega (
  arith,
  below_none n k (omega arith),
  ap one_if (other_number k n (λ e. omega (arith, e))),
)

pub below_one : (n k : ℕ) → k < n → below n (λ m. one_if (k == m)) ≡ 1
below_one zero k lt = absurd (omega arith)
below_one (suc n) k lt = elim (same_or_not k n) [
  | inl same ↦ omega (arith, below_none n k (omega (arith, same)), ap one_if (same_number k n same))
  | inr apart ↦ omega (
    arith,
    below_one n k (omega (arith, apart)),
    ap one_if (other_number k n apart),
  )
]

pub below_zero : (n : ℕ) → below n (λ m. 0) ≡ 0
below_zero zero = refl
below_zero (suc n) = omega (arith, below_zero n)

pub below_bound : (n : ℕ) (f : ℕ → ℕ) → ((m : ℕ) → f m ≤ 1) → below n f ≤ n
below_bound zero f one = omega arith
below_bound (suc n) f one = omega (arith, below_bound n f one, one n)

pub below_short : (n : ℕ) (f : ℕ → ℕ) (k : ℕ) → ((m : ℕ) → f m ≤ 1) → k < n → f k ≡ 0
    → below n f < n
below_short zero f k one lt none = absurd (omega arith)
below_short (suc n) f k one lt none = elim (same_or_not k n) [
  | inl same ↦ omega (arith, below_bound n f one, ap f same, none)
  | inr apart ↦ omega (arith, below_short n f k one (omega (arith, apart)) none, one n)
]

-- If a sum is not 0, some part is not.
pub some_part : {X : Type 0} (f : X → ℕ) (xs : List X) → sum_by f xs ≢ 0 → (i : ℕ) × (x : X)
    × (get_elem? xs i ≡ maybe.some x) × (f x ≢ 0)
some_part f [] some = absurd (some refl)
some_part f (x ∷ xs) some = elim (same_or_not (f x) 0) [
  | inl is ↦ (let rest = some_part f xs (λ none. some (omega (
    arith,
    sum_by-cons f x xs,
    is,
    none,
  ))) in (suc rest.0, rest.1, rest.2, rest.3))
  | inr is ↦ (0, x, refl, is)
]

-- what stands in two lists
pub at_left : {X : Type 0} (xs ys : List X) (i : ℕ) (x : X) → get_elem? xs i ≡ maybe.some x
    → get_elem? (xs ++ ys) i ≡ maybe.some x
at_left [] ys i x e = absurd (maybe.some-ne-none x (sym e))
at_left (y ∷ xs) ys zero x e = e
at_left (y ∷ xs) ys (suc i) x e = at_left xs ys i x e

pub at_right : {X : Type 0} (xs ys : List X) (i : ℕ)
    → get_elem? (xs ++ ys) (length xs + i) ≡ get_elem? ys i
at_right [] ys i =
    let same : 0 + i ≡ i = omega arith in
    ap (get_elem? ys) same
at_right (x ∷ xs) ys i =
    let same : suc (length xs) + i ≡ suc (length xs + i) = omega arith in
    ap (get_elem? (x ∷ (xs ++ ys))) same ∙ at_right xs ys i

get_middle : {X : Type 0} (xs ys : List X) (x : X)
    → slice_index_or ((xs ++ x ∷ []) ++ ys) (length xs) x ≡ x
get_middle [] ys x = refl
get_middle (y ∷ xs) ys x = get_middle xs ys x

-- what holds of all holds of one among them
pub all_middle : {X : Type 0} (P : X → Type 0) (xs ys zs ws : List X) (x : X) → zs ≡ ws ++ ys
    → ws ≡ xs ++ x ∷ [] → All P zs → P x
all_middle P xs ys zs ws x is whole all =
    let same : zs ≡ (xs ++ x ∷ []) ++ ys = is ∙ ap (λ v. v ++ ys) whole in
    subst P (ap (λ v. slice_index_or v (length xs) x) same ∙ get_middle xs ys x)
    (all (length xs) x (omega (
      arith,
      ap length same,
      length-append (xs ++ x ∷ []) ys,
      length_push xs x,
    )))
