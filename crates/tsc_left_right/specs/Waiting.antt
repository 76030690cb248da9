-- How often one tries again. (For private contracts.)
use Rattle.std.specs.Prelude.{ℕ, Option, Some, None}
use Rattle.tsc_left_right.specs.declared.table.Knowledge.{Knowledge}
use Rattle.tsc_left_right.specs.Steps.{At}
use Rattle.tsc_left_right.specs.Participating.{IsWriting}

-- There is an end of the tries.
abbrev pub HasEnd : Option ℕ → Type 0
HasEnd None = ⊥
HasEnd (Some tries) = Unit {0}

-- The writer of v has cleared some seats.
abbrev pub StillWrites : {C O S E : Type 0} → Knowledge S E → At C O S E → Type 0
StillWrites v me = (cleared : ℕ) × IsWriting v me cleared
