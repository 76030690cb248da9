-- Sums over participants and over states.
use Rattle.std.proofs.Common.{◌≡◌, ◌≢◌, refl, ap, sym, ℕ, zero, suc, ◌+◌, ◌≤◌, List, [], ◌∷◌, set, arith}
use Rattle.std.specs.List.{sum_by}
use mathlib.Core.Option.{some, some-injective, some-ne-none}
use lib.ListN.{get_elem?}
use Rattle.std.proofs.lemmas.List.Sums.{sum_by-cons}

module _ {X : Type 0} (f : X → ℕ) where
  -- a part is at most the whole
  pub part : (xs : List X) (i : ℕ) (x : X) → get_elem? xs i ≡ some x → f x ≤ sum_by f xs
  part [] i x e = absurd (some-ne-none x (sym e))
  part (y ∷ xs) zero x e = omega (arith, sum_by-cons f y xs, ap f (some-injective y x e))
  part (y ∷ xs) (suc i) x e = omega (arith, sum_by-cons f y xs, part xs i x e)

  -- and so are two
  pub two_parts : (xs : List X) (i j : ℕ) (x y : X) → i ≢ j → get_elem? xs i ≡ some x
      → get_elem? xs j ≡ some y → f x + f y ≤ sum_by f xs
  two_parts [] i j x y n e d = absurd (some-ne-none x (sym e))
  two_parts (z ∷ xs) zero zero x y n e d = absurd (n refl)
  two_parts (z ∷ xs) zero (suc j) x y n e d = omega (
    arith,
    sum_by-cons f z xs,
    ap f (some-injective z x e),
    part xs j y d,
  )
  two_parts (z ∷ xs) (suc i) zero x y n e d = omega (
    arith,
    sum_by-cons f z xs,
    ap f (some-injective z y d),
    part xs i x e,
  )
  two_parts (z ∷ xs) (suc i) (suc j) x y n e d = omega (
    arith,
    sum_by-cons f z xs,
    two_parts xs i j x y (λ s. n (ap suc s)) e d,
  )

  -- what becomes of the sum where one changes
  pub total_set : (xs : List X) (i : ℕ) (x y : X) → get_elem? xs i ≡ some x
      → sum_by f (set xs i y) + f x ≡ sum_by f xs + f y
  total_set [] i x y e = absurd (some-ne-none x (sym e))
  total_set (z ∷ xs) zero x y e = omega (
    arith,
    sum_by-cons f z xs,
    sum_by-cons f y xs,
    ap f (some-injective z x e),
  )
  total_set (z ∷ xs) (suc i) x y e = omega (
    arith,
    sum_by-cons f z xs,
    sum_by-cons f z (set xs i y),
    total_set xs i x y e,
  )
