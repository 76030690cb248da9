-- How often one tries again. (For private contracts.)
use Rattle.std.specs.Prelude.{ℕ, Option, Some, None}

-- There is an end of the tries.
abbrev pub HasEnd : Option ℕ → Type 0
HasEnd None = ⊥
HasEnd (Some tries) = Unit {0}
