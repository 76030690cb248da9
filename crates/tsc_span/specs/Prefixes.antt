-- Prefixes that stand for the first bytes of keys, so that most keys are compared by them alone.
use Rattle.std.specs.Prelude.{◌≡◌, ℕ, ◌-◌, ◌<◌, ◌^◌, Bool, Option, Some, None}
use Rattle.std.specs.List.{All}
use Rattle.tsc_span.specs.Span.{KeyBytes, Cut, before, after, last, is_below}
pub use Rattle.tsc_span.specs.Spelled.{spelled}

-- the prefix of a key: its first twenty-four bytes
abbrev pub prefix_of : KeyBytes → ℕ
prefix_of k = spelled 24 0 k

-- A prefix is that of a key, which is a text of bytes.
pub record IsPrefixOf (n : ℕ) (k : KeyBytes) : Type 0 where
  pub prefix : n ≡ prefix_of k
  pub small : All (λ b. b < 256) k

-- Two keys with one prefix.
pub record AreTied (k m : KeyBytes) : Type 0 where
  pub prefix : prefix_of k ≡ prefix_of m
  pub first : All (λ b. b < 256) k
  pub second : All (λ b. b < 256) m

-- the greatest prefix stands for the last cut
abbrev pub IsCutPrefix : ℕ → Cut → Type 0
IsCutPrefix n (before k) = IsPrefixOf n k
IsCutPrefix n (after k) = IsPrefixOf n k
IsCutPrefix n last = n ≡ 2 ^ 192 - 1

-- the key at which a cut lies, and none for the last one
abbrev pub IsKeyAt : Cut → Option KeyBytes → Type 0
IsKeyAt (before k) key = key ≡ Some k
IsKeyAt (after k) key = key ≡ Some k
IsKeyAt last key = key ≡ None

-- whether a cut lies below those of a prefix, and nothing just where that is its own one
abbrev pub ReportsBelow : Cut → ℕ → Option Bool → Type 0
ReportsBelow c n None = IsCutPrefix n c
ReportsBelow c n (Some below) = (IsCutPrefix n c → ⊥) ×
    ((d : Cut) → IsCutPrefix n d → below ≡ is_below c d)

-- whether a cut's prefix tells that it lies above
abbrev pub ReportsAbove : Cut → ℕ → Option Bool → Type 0
ReportsAbove c n None = IsCutPrefix n c
ReportsAbove c n (Some above) = (IsCutPrefix n c → ⊥) ×
    ((d : Cut) → IsCutPrefix n d → above ≡ is_below d c)
