-- The least key of a list that lies above a cut.
use Rattle.std.specs.Prelude.{◌≡◌, List, [], ◌∷◌, Bool, true, false, not, Option, Some, None, if◌then◌else◌}
use Rattle.tsc_span.specs.Span.{KeyBytes, Cut, before, is_below}
use Rattle.tsc_page_model.specs.PageView.{is_in}

-- A key lies above a cut where the place right before it doesn't lie below that.
abbrev pub lies_above : Cut → KeyBytes → Bool
lies_above c k = not (is_below (before k) c)

-- the first key of a list that does
abbrev pub first_above : Cut → List KeyBytes → Option KeyBytes
first_above c [] = None
first_above c (k ∷ ks) = if is_below (before k) c then first_above c ks else Some k

-- A key of a list lies above a cut, and none of those that do lies below it.
pub record LeastAbove (c : Cut) (ks : List KeyBytes) (m : KeyBytes) : Type 0 where
  pub member : is_in m ks ≡ true
  pub above : lies_above c m ≡ true
  pub least : (k : KeyBytes) → is_in k ks ≡ true → lies_above c k ≡ true →
      is_below (before k) (before m) ≡ false

-- the least key of a list above a cut, in whatever order they stand, or nothing just where none of
-- them lies above it
abbrev pub IsLeastAbove : Cut → List KeyBytes → Option KeyBytes → Type 0
IsLeastAbove c ks None = (k : KeyBytes) → is_in k ks ≡ true → lies_above c k ≡ false
IsLeastAbove c ks (Some m) = LeastAbove c ks m
