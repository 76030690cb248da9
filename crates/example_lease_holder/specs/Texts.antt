-- What is printed of times and of reads.
use Rattle.std.specs.Prelude.{ℕ, List, ◌++◌, Option, Some, None, Bool, false, if◌then◌else◌, codes, decimal}
use Rattle.std.specs.Char.{encode_utf8}
use Rattle.std.specs.List.{find}
use Rattle.std.specs.Str.{bytes_eq}
use Rattle.timestamp_cache.specs.Words.{Time, is_before, Owner, ValueView}
use Rattle.example_lease_holder.specs.declared.Plan.{Plan}
use Rattle.example_lease_holder.specs.declared.lease.Written.{Written}
use Rattle.example_lease_holder.specs.Plans.{time_at, id_of}

-- a time: its wall time, a dot, and its logical count
abbrev pub time_text : Time → List ℕ
time_text time = decimal time.wall ++ (codes "." ++ decimal time.logical)

-- whether an owner is the transaction of this id
abbrev pub is_owner : Option Owner → Owner → Bool
is_owner None id = false
is_owner (Some owner) id = bytes_eq owner id

-- the transaction of an owner: the first one of the plans that has its id
abbrev pub reader : Option Owner → List Plan → Option Plan
reader owner plans = find (λ plan. is_owner owner (id_of plan.name)) plans

-- what a key was read by: when and by which transaction, where there is one, or else up to which
-- time it may have been read
abbrev pub reason_text : List ℕ → ValueView → Option Plan → List ℕ
reason_text key read (Some plan) =
    codes "\"" ++ (key ++ (codes "\" was read at " ++
    (time_text read.time ++ (codes " by " ++ encode_utf8 plan.name))))
reason_text key read None = codes "\"" ++
    (key ++ (codes "\" may have been read up to " ++ time_text read.time))

-- the text of a read: by whom, of which key, when, and what that is then
abbrev pub read_text : ℕ → List ℕ → Time → ℕ → List ℕ
read_text name key at value = encode_utf8 name ++
    (codes " read \"" ++ (key ++ (codes "\" at " ++
    (time_text at ++ (codes ": " ++ decimal value)))))

-- the text of a write at the time that it wanted
abbrev pub wanted_text : ℕ → List ℕ → Time → List ℕ
wanted_text name key at = encode_utf8 name ++
    (codes " wrote \"" ++ (key ++ (codes "\" at " ++ (time_text at ++ codes ", as it wanted"))))

-- the text of a write that was pushed to a later time, and by what
abbrev pub pushed_text : Plan → Time → List ℕ → List ℕ
pushed_text plan at reason = encode_utf8 plan.name ++
    (codes " wanted to write \"" ++
    (plan.write.0.now ++ (codes "\" at " ++
    (time_text (time_at plan.write.1) ++
    (codes ", was pushed to " ++ (time_text at ++ (codes ": " ++ reason)))))))

-- the text of a plan's write, which was laid down at the time that it wanted, or was pushed,
-- perhaps by a read of one of these plans
abbrev pub write_text : Plan → Written → List Plan → List ℕ
write_text plan written plans = if is_before (time_at plan.write.1) written.at
    then pushed_text plan written.at
    (reason_text plan.write.0.now written.reason (reader written.reason.owner plans))
    else wanted_text plan.name plan.write.0.now written.at
