-- What a part of a trace is read as: a value, or the least of the faults that the part has.
use Rattle.std.specs.Prelude.{ℕ, nat_le, Bool, Result, Ok, Err, if◌then◌else◌}
use Rattle.tsc_trace_format.specs.declared.read.part.PartFault.{PartFault}
use Rattle.tsc_trace_format.specs.declared.read.part.PartFault.TheVariants.{Shape, Number, Hex, Uuid, Span, TooLarge}
use Rattle.tsc_trace_format.specs.declared.read.TraceFault.{TraceFault}
use Rattle.tsc_trace_format.specs.declared.read.TraceFault.TheVariants as trace_fault

-- the number of a kind of fault
abbrev pub fault_number : PartFault → ℕ
fault_number Shape = 2
fault_number Number = 3
fault_number Hex = 4
fault_number Uuid = 5
fault_number Span = 6
fault_number TooLarge = 9

-- the fault of the lesser number
abbrev pub lesser_fault : PartFault → PartFault → PartFault
lesser_fault f g = if nat_le (fault_number f) (fault_number g) then f else g

-- a value, or the least fault of the part that should be one
abbrev pub Part : Type 0 → Type 0
Part A = Result A PartFault

-- two parts side by side: their values, or the least fault of both
abbrev pub both : {A B : Type 0} → Part A → Part B → Part (A × B)
both (Ok x) (Ok y) = Ok (x, y)
both (Ok x) (Err g) = Err g
both (Err f) (Ok y) = Err f
both (Err f) (Err g) = Err (lesser_fault f g)

-- What comes of a value, where there is one. A part that shows only once another was read comes
-- after it.
infixl 10 ◌>>=◌
abbrev pub ◌>>=◌ : {A B F : Type 0} → Result A F → (A → Result B F) → Result B F
Ok x >>= f = f x
Err fault >>= f = Err fault

-- a value where a test holds, and else a fault
abbrev pub where_holds : {A F : Type 0} → F → Bool → A → Result A F
where_holds fault test x = if test then Ok x else Err fault

-- the fault of a call that has a part with this fault, by the number of the call
abbrev pub fault_at : ℕ → PartFault → TraceFault
fault_at call Shape = trace_fault.Shape call
fault_at call Number = trace_fault.Number call
fault_at call Hex = trace_fault.Hex call
fault_at call Uuid = trace_fault.Uuid call
fault_at call Span = trace_fault.Span call
fault_at call TooLarge = trace_fault.TooLarge call

-- a part of the call with this number
abbrev pub at_call : {A : Type 0} → ℕ → Part A → Result A TraceFault
at_call call (Ok x) = Ok x
at_call call (Err fault) = Err (fault_at call fault)
