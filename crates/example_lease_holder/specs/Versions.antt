-- The versions of a key.
use Rattle.std.specs.Prelude.{ℕ, List, [], ◌∷◌, Option, Some, None, ◌||◌, if◌then◌else◌}
use Rattle.timestamp_cache.specs.Words.{Time, is_before, zero_time}
use Rattle.example_lease_holder.specs.declared.lease.Version.{Version}

-- the value of the latest version up to a time, where so much was found among those before; of two
-- at one time it is the one that was written last
abbrev pub latest : Time → Option ℕ → List Version → Time → Option ℕ
latest since value [] at = value
latest since value (v ∷ vs) at = if is_before at v.at ||
    is_before v.at since then latest since value vs at else latest v.at (Some v.value) vs at

-- what a key is at a time
abbrev pub value_at : List Version → Time → Option ℕ
value_at versions at = latest zero_time None versions at

-- the versions that a write adds
abbrev pub written : Option Time → ℕ → List Version
written None value = []
written (Some at) value = record { at = at; value = value } ∷ []
