-- What transactions plan, and what comes of it.
use Rattle.std.specs.Prelude.{◌≡◌, ℕ, ◌-◌, ◌^◌, All, false, if◌then◌else◌}
use Rattle.std.specs.Int.{to_be_bytes, w128}
use Rattle.timestamp_cache.specs.Words.{Time, is_in_range, is_before, Owner, point, History}
use Rattle.timestamp_cache.specs.Clear.{IsClearOfReads}
use Rattle.example_lease_holder.specs.Reads.{HasRead, read_of}
use Rattle.example_lease_holder.specs.declared.Plan.{Plan}

-- the latest timestamp
abbrev pub last_time : Time
last_time = record { wall = 2 ^ 63 - 1; logical = 2 ^ 31 - 1 }

-- the time of this wall time and no logical count, or the latest one where that is out of range
abbrev pub time_at : ℕ → Time
time_at wall = let time : Time = record { wall = wall; logical = 0 } in if is_in_range time then
    time else last_time

-- the id of a transaction: the number of its name, in sixteen bytes
unfoldable pub id_of : ℕ → Owner
id_of name = to_be_bytes w128 name

-- A history has each read of a plan: of each of its keys, at the time at which it is to be read, by
-- the transaction.
abbrev pub HasReadsOf : Plan → History → Type 0
HasReadsOf plan h = All (λ row. HasRead (point row.0.now) h
    (read_of (time_at row.1) (id_of plan.name))) plan.reads.now

-- A plan's transaction may write its key at a time: not before the one that it wants, and where
-- that is clear of each read of a history on the key but its own.
pub record MayWriteAt (plan : Plan) (h : History) (at : Time) : Type 0 where
  pub from_on : is_before at (time_at plan.write.1) ≡ false
  pub clear : IsClearOfReads h (point plan.write.0.now) (id_of plan.name) at
