-- What the functions of a writer do with the slots in hand. (For private contracts.)
use Rattle.std.specs.Prelude.{ℕ, Bool, true, false}
use Rattle.tsc_left_right.specs.declared.table.Slot.{Slot}
use Rattle.tsc_left_right.specs.Steps.{IsHandleOn}

-- a handle on this copy if so, and else anything
abbrev pub IsHandleIf : {C O : Type 0} → Bool → C → ℕ → Slot C O → Type 0
IsHandleIf true copy length x = IsHandleOn copy length x
IsHandleIf false copy length x = Unit {0}
