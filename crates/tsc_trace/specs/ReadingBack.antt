-- What a reader of one part of a line gives, by the text that the part has when it is written.
use Rattle.std.specs.Prelude.{◌≡◌, ◌≢◌, ℕ, List, [], ◌∷◌, ◌++◌, All, Bool, Option, Some, None}
use Rattle.tsc_trace.specs.declared.log.Line.{Line}
use Rattle.tsc_trace.specs.LogText.{space, line_text}
use Rattle.tsc_trace.specs.LogReading.{IsWritable}

-- no byte of a list is this one
abbrev pub IsWithout : ℕ → List ℕ → Type 0
IsWithout byte bytes = All (λ b. b ≢ byte) bytes

-- either bit can be written
abbrev pub IsAnyBit : Bool → Type 0
IsAnyBit b = Unit {0}

-- The text is that of no line.
abbrev pub IsNoLineText : List ℕ → Type 0
IsNoLineText text = (line : Line) → IsWritable line → text ≢ line_text line

-- One more line is there, with this text.
pub record AddsLine (text : List ℕ) (old new : List Line) : Type 0 where
  pub line : Line
  pub writable : IsWritable line
  pub spelled : text ≡ line_text line
  pub added : new ≡ old ++ line ∷ []

-- If the text is that of a value in bounds, this value was read.
abbrev pub ReadsBack : {X : Type 0} → (X → Type 0) → (X → List ℕ) → List ℕ → Option X → Type 0
ReadsBack {X} InBounds written text None = (x : X) → InBounds x → text ≢ written x
ReadsBack {X} InBounds written text (Some y) =
    InBounds y × ((x : X) → InBounds x → text ≡ written x → y ≡ x)

-- If the text begins with that of a value in bounds and a space, this value was read, and what
-- follows the space.
abbrev pub ReadsField : {X : Type 0} → (X → Type 0) → (X → List ℕ) → List ℕ →
    Option (X × List ℕ) → Type 0
ReadsField {X} InBounds written text None = (x : X) (rest : List ℕ) → InBounds x →
    text ≢ written x ++ space ∷ rest
ReadsField {X} InBounds written text (Some field) =
    InBounds field.0 × ((x : X) (rest : List ℕ) → InBounds x → text ≡ written x ++ space ∷ rest →
    (field.0 ≡ x) × (field.1 ≡ rest))
