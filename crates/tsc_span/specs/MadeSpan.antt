-- Which spans can be made of keys.
use Rattle.std.specs.Prelude.{◌≡◌, ◌<◌, ◌↔◌, ◌⊎◌, Bool, true, Some}
use Rattle.std.specs.List.{All}
use Rattle.tsc_span.specs.Span.{KeyBytes, fits_key, Cut, before, after, last, is_below, SpanView, nothing, between, range, onward}

-- numbers that a key can have as its bytes: no more than fit, and each of them a byte
pub record IsKey (k : KeyBytes) : Type 0 where
  pub fits : fits_key k ≡ true
  pub bytes : All (λ b. b < 256) k

-- a place beside such a key, or the last one
abbrev pub IsMadeCut : Cut → Type 0
IsMadeCut (before k) = IsKey k
IsMadeCut (after k) = IsKey k
IsMadeCut last = Unit {0}

-- A span that can be made: the empty one, or one between two places of which the first is below the
-- second. So the first is beside a key, since nothing lies above the last cut.
abbrev pub IsMadeSpan : SpanView → Type 0
IsMadeSpan nothing = Unit {0}
IsMadeSpan (between from to) = IsMadeCut from × IsMadeCut to × (is_below from to ≡ true)

-- what `Span::range` gives for some keys and ends
abbrev pub IsOfRange : SpanView → Type 0
IsOfRange s = (from : KeyBytes) × (to : KeyBytes) × (xf : Bool) × (xt : Bool) × IsKey from ×
    IsKey to × (range from to xf xt ≡ Some s)

-- what `Span::onward` gives for some key
abbrev pub IsOnward : SpanView → Type 0
IsOnward s = (from : KeyBytes) × (xf : Bool) × IsKey from × (onward from xf ≡ s)

-- the spans that can be made are those that the two give
abbrev pub MadeByConstructor : Type 0
MadeByConstructor = (s : SpanView) → IsMadeSpan s ↔ (IsOfRange s ⊎ IsOnward s)
