-- Membership by recursion, for proofs by cases on a list.
use Rattle.std.proofs.Common.{◌≡◌, ◌⊎◌, List, [], ◌∷◌, zero, suc, arith, inl, inr}
use Rattle.std.specs.List.{Contains}

-- x is one of the list
abbrev pub IsIn : {X : Type 0} → List X → X → Type 0
IsIn [] x = ⊥
IsIn (y ∷ ys) x = (y ≡ x) ⊎ IsIn ys x

pub IsIn-from_Contains : {X : Type 0} (xs : List X) (x : X) → Contains xs x → IsIn xs x
IsIn-from_Contains [] x c = absurd (omega (arith, c.1))
IsIn-from_Contains (y ∷ ys) x (zero, below, e) = inl e
IsIn-from_Contains (y ∷ ys) x (suc k, below, e) = inr (IsIn-from_Contains ys x (k, omega arith, e))

pub Contains-from_IsIn : {X : Type 0} (xs : List X) (x : X) → IsIn xs x → Contains xs x
Contains-from_IsIn [] x i = absurd i
Contains-from_IsIn (y ∷ ys) x (inl e) = (0, omega arith, e)
Contains-from_IsIn (y ∷ ys) x (inr i) = let c =
    Contains-from_IsIn ys x i in (suc c.0, omega (arith, c.1), c.2)
