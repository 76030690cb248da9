-- Histories of operations, by what is replicated.
use Rattle.std.specs.Prelude.{◌≡◌, ℕ, List, [], ◌∷◌, ◌++◌, count_by, ◌==◌}
use Rattle.tsc_left_right.specs.declared.replicated.Replicated.{Ghosts}

-- a history begins with another where that one is a first part of it
abbrev pub BeginsWith : {E : Type 0} → List E → List E → Type 0
BeginsWith {E} h start = (rest : List E) × (h ≡ start ++ rest)

module _ {P C O S E : Type 0} (R : Ghosts P C O S E) where
  -- how many entries a seat has
  abbrev pub own_count : ℕ → List E → ℕ
  own_count seat h = count_by (λ e. R.seat_of e == seat) h

  -- A history is legal under some settings for a number of seats where each of its entries may come
  -- next after those before it.
  abbrev pub IsLegal : S → ℕ → List E → Type 0
  IsLegal config seats h = (before : List E) (e : E) → BeginsWith h (before ++ e ∷ []) →
      R.is_next config seats before e
