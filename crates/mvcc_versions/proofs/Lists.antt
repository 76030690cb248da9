-- What holds of each item of a list.
use Rattle.std.proofs.Common.{◌≡◌, ◌∙◌, ap, ℕ, ◌+◌, ◌<◌, take, List, [], ◌∷◌, ◌++◌, length, get_or}
use Rattle.std.specs.List.{AllByRecursion}
use Rattle.std.proofs.lemmas.List.{take_more}

-- what holds of each still does where something weaker does
pub each : {A : Type 0} (P Q : A → Type 0) (xs : List A) → ((x : A) → P x → Q x)
    → AllByRecursion P xs → AllByRecursion Q xs
each P Q [] f all = tt
each P Q (x ∷ xs) f all = (f x all.0, each P Q xs f all.1)

-- the first items and the next one are one more
pub more : {A : Type 0} (xs : List A) (i : ℕ) (x : A) → i < length xs → get_or xs i x ≡ x
    → take (i + 1) xs ≡ take i xs ++ x ∷ []
more {A} xs i x below is = take_more xs i x below ∙ ap (λ (y : A). take i xs ++ y ∷ []) is
