-- A text is cut at the first of its bytes that is a mark in one way only.
use Rattle.std.proofs.Common.{◌≡◌, ◌≢◌, ℕ, List, [], ◌∷◌, ◌++◌, refl}
use Rattle.std.proofs.lemmas.List.Elements.{All-head, All-tail}
use Rattle.tsc_trace.specs.ReadingBack.{IsWithout}

-- two cuts at a mark, before which it does not stand, are one
pub cut_same : (mark : ℕ) (a b c d : List ℕ) → IsWithout mark a → IsWithout mark c →
    a ++ mark ∷ b ≡ c ++ mark ∷ d → (a ≡ c) × (b ≡ d)
cut_same mark [] b [] d before other e = (refl, cc)
cut_same mark [] b (y ∷ c) d before other e = let same : y ≡ mark =
    cc in absurd (All-head (λ x. x ≢ mark) y c other same)
cut_same mark (x ∷ a) b [] d before other e = let same : x ≡ mark =
    cc in absurd (All-head (λ x. x ≢ mark) x a before same)
cut_same mark (x ∷ a) b (y ∷ c) d before other e =
    let heads : x ≡ y = cc in
    let tails : a ++ mark ∷ b ≡ c ++ mark ∷ d = cc in
    let rest = cut_same mark a b c d (All-tail (λ x. x ≢ mark) x a before)
    (All-tail (λ x. x ≢ mark) y c other) tails in
    (let front : a ≡ c = rest.0 in cc, rest.1)

-- what has no mark is not cut at it
pub no_cut : (mark : ℕ) (a b text : List ℕ) → IsWithout mark text → text ≢ a ++ mark ∷ b
no_cut mark [] b [] without e = absurd cc
no_cut mark [] b (x ∷ text) without e = let same : x ≡ mark =
    cc in absurd (All-head (λ x. x ≢ mark) x text without same)
no_cut mark (y ∷ a) b [] without e = absurd cc
no_cut mark (y ∷ a) b (x ∷ text) without e =
    no_cut mark a b text (All-tail (λ x. x ≢ mark) x text without) cc
