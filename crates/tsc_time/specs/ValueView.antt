-- What the cache holds for a key: a time, and whose it is (`cacheValue` of CockroachDB's
-- pkg/kv/kvserver/tscache).
use Rattle.std.specs.Prelude.{◌≡◌, ℕ, ◌<◌, List, length, All, Bool, true, false, Option, Some, None, if◌then◌else◌}
use Rattle.std.specs.Str.{bytes_eq}
use Rattle.uuid.specs.Parts.{is_nil_bytes}
use Rattle.tsc_time.specs.Time.{Time, is_in_range}

-- a transaction's name: the sixteen bytes of its UUID
abbrev pub Owner : Type 0
Owner = List ℕ

-- a time, and its owner where it has one
pub record ValueView : Type 0 where
  pub time : Time
  pub owner : Option Owner

-- a time that nobody owns
abbrev pub unowned : Time → ValueView
unowned t = record { time = t; owner = None }

-- the owner that a UUID names: the nil UUID names none
abbrev pub owner_of : List ℕ → Option Owner
owner_of uuid = if is_nil_bytes uuid then None else Some uuid

-- whether two name one owner, or neither names any
abbrev pub is_same_owner : Option Owner → Option Owner → Bool
is_same_owner None None = true
is_same_owner None (Some b) = false
is_same_owner (Some a) None = false
is_same_owner (Some a) (Some b) = bytes_eq a b

-- An owner that a value can have: none, or sixteen bytes that are not all zero.
abbrev pub IsMadeOwner : Option Owner → Type 0
IsMadeOwner None = Unit {0}
IsMadeOwner (Some o) = (length o ≡ 16) × All (λ b. b < 256) o × (is_nil_bytes o ≡ false)

-- a value that can be made has a time in range, and such an owner
pub record IsMadeValue (v : ValueView) : Type 0 where
  pub time : is_in_range v.time ≡ true
  pub owner : IsMadeOwner v.owner
