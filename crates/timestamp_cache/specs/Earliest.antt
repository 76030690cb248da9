-- The earliest time at which something holds.
use Rattle.std.specs.Prelude.{◌≡◌, true, false, Option, Some, None}
use Rattle.tsc_time.specs.Time.{Time, is_in_range, is_before}

-- A time is the earliest, from one on, at which something holds: it is in range, not before that
-- one, and it holds there and at none in range between the two.
pub record IsEarliest (P : Time → Type 0) (from at : Time) : Type 0 where
  pub in_range : is_in_range at ≡ true
  pub from_on : is_before at from ≡ false
  pub holds : P at
  pub least : (t : Time) → is_in_range t ≡ true → is_before t from ≡ false → P t →
      is_before t at ≡ false

-- The earliest time, from one on, at which something holds; none where it holds at none in range.
abbrev pub ReportsEarliest : (Time → Type 0) → Time → Option Time → Type 0
ReportsEarliest P from (Some at) = IsEarliest P from at
ReportsEarliest P from None = (t : Time) → is_in_range t ≡ true → is_before t from ≡ false → P t → ⊥

-- What holds at a time holds at each later one.
abbrev pub Stays : (Time → Type 0) → Type 0
Stays P = (t u : Time) → is_before u t ≡ false → P t → P u
