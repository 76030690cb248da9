-- Timestamps: `hlc.Timestamp` of CockroachDB's pkg/util/hlc, without its negative values.
use Rattle.std.specs.Prelude.{ℕ, ◌-◌, ◌&&◌, ◌==◌, nat_lt, nat_le, Bool, Option, Some, None, if◌then◌else◌}
use Rattle.std.specs.declared.cmp.Ordering.{Ordering}
use Rattle.std.specs.Ordering.{nat_cmp, is_lt, ordering_then}
use Rattle.tsc_time.specs.Limits.{wall_limit, logical_limit}

-- a wall time in nanoseconds, and a logical count
pub record Time : Type 0 where
  pub wall : ℕ
  pub logical : ℕ

-- whether both parts are in range
abbrev pub is_in_range : Time → Bool
is_in_range t = nat_lt t.wall wall_limit && nat_lt t.logical logical_limit

-- the earliest timestamp
abbrev pub zero_time : Time
zero_time = record { wall = 0; logical = 0 }

-- the order of timestamps: by wall time, and then by logical count
abbrev pub time_cmp : Time → Time → Ordering
time_cmp a b = ordering_then (nat_cmp a.wall b.wall) (nat_cmp a.logical b.logical)

-- whether the first of two is the earlier
abbrev pub is_before : Time → Time → Bool
is_before a b = is_lt (time_cmp a b)

-- whether two timestamps are equal in both parts
abbrev pub is_same_time : Time → Time → Bool
is_same_time a b = (a.wall == b.wall) && (a.logical == b.logical)

-- the later of two
abbrev pub later : Time → Time → Time
later a b = if is_before a b then b else a

-- the timestamp `ns` nanoseconds before t, with an equal logical count, where there is one
abbrev pub time_minus : Time → ℕ → Option Time
time_minus t ns = if nat_le ns t.wall then Some (record { wall = t.wall - ns; logical = t.logical })
    else None
