-- What the rows of the tables stand for.
use Rattle.std.specs.Prelude.{ℕ, List, Option, ◌-◌, ◌^◌, if◌then◌else◌}
use Rattle.std.specs.Int.{to_be_bytes, w128}
use Rattle.tsc_span.specs.Span.{start_to_end}
use Rattle.timestamp_cache.specs.Words.{Time, is_in_range, Owner, SpanView}

-- the latest timestamp
abbrev pub last_time : Time
last_time = record { wall = 2 ^ 63 - 1; logical = 2 ^ 31 - 1 }

-- the time of this wall time and no logical count, or the latest one where that is out of range
abbrev pub time_at : ℕ → Time
time_at wall = let time : Time = record { wall = wall; logical = 0 } in if is_in_range time then
    time else last_time

-- the id of a transaction: the number of its name, in sixteen bytes
unfoldable pub id_of : ℕ → Owner
id_of name = to_be_bytes w128 name

-- the keys from one up to another, or the one alone where the other is empty
abbrev pub span_of : List ℕ → List ℕ → Option SpanView
span_of from to = start_to_end from to
