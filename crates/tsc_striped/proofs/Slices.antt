-- Lists of pieces, one for each stripe from the first on.
use Rattle.std.proofs.Common.{◌≡◌, ◌∙◌, inl, inr, refl, sym, ap, true, ℕ, ◌+◌, ◌<◌}
use Rattle.std.proofs.Common.{List, [], ◌∷◌, ◌++◌, length, arith}
use Rattle.std.specs.Prelude.{slice_index_or, ◌==◌}
use Rattle.std.proofs.lemmas.List.{get_or_append_left, get_or_push}
use Rattle.std.proofs.lemmas.Bool.Decides.{nat_tests}
use Rattle.tsc_page_model.specs.Page.{Mark}
use Rattle.tsc_striped.proofs.Touches.{in_or_past}

-- one more
pub pieces_more : (xs : List (List Mark)) (x : List Mark) (first stripe : ℕ) (at : ℕ → List Mark)
    → first + length xs ≡ stripe
    → ((i : ℕ) (d : List Mark) → i < length xs → slice_index_or xs i d ≡ at (first + i))
    → x ≡ at stripe → (i : ℕ) (d : List Mark) → i < length (xs ++ x ∷ [])
    → slice_index_or (xs ++ x ∷ []) i d ≡ at (first + i)
pieces_more xs x first stripe at here before is i d in_range = elim (in_or_past i (length xs)) [
  | inl low ↦ get_or_append_left xs (x ∷ []) d i low ∙ before i d low
  | inr past ↦ (let last : i ≡ length xs = omega (arith, past, in_range, length_more xs x) in
      let there : stripe ≡ first + i = omega (arith, here, last) in
      get_or_push xs x d i (sym last) ∙ is ∙ ap at there)
]
  where
    length_more : (ys : List (List Mark)) (y : List Mark) → length (ys ++ y ∷ []) ≡ length ys + 1
    length_more [] y = refl
    length_more (z ∷ ys) y = omega (arith, length_more ys y)

-- a list that a test finds empty
pub is_nothing : (ms : List Mark) → (length ms == 0) ≡ true → ms ≡ []
is_nothing [] e = refl
is_nothing (m ∷ ms) e = absurd (some (length (m ∷ ms)) (omega arith) e)
  where
    some : (n : ℕ) → 0 < n → (n == 0) ≡ true → ⊥
    some n low is = grind (arith, nat_tests)
