-- What is printed.
use Rattle.std.specs.Prelude.{ℕ, ◌==◌, List, length, ◌++◌, Option, Some, None, Bool, false, if◌then◌else◌, codes, decimal}
use Rattle.std.specs.Char.{encode_utf8}
use Rattle.std.specs.List.{find}
use Rattle.std.specs.Str.{bytes_eq}
use Rattle.timestamp_cache.specs.Words.{Time, is_before, Owner, ValueView}
use Rattle.example_hand_over.specs.declared.Read.{Read}
use Rattle.example_hand_over.specs.declared.Write.{Write}
use Rattle.example_hand_over.specs.Tables.{time_at, id_of}

-- a time: its wall time, a dot, and its logical count
abbrev pub time_text : Time → List ℕ
time_text time = decimal time.wall ++ (codes "." ++ decimal time.logical)

-- whether an owner is the transaction of this id
abbrev pub is_owner : Option Owner → Owner → Bool
is_owner None id = false
is_owner (Some owner) id = bytes_eq owner id

-- the read of an owner: the first one of the table whose transaction has its id
abbrev pub reader : Option Owner → List Read → Option Read
reader owner reads = find (λ read. is_owner owner (id_of read.name)) reads

-- what a key was read by: when and by which transaction, where there is one, or else up to which
-- time it may have been read
abbrev pub reason_text : List ℕ → ValueView → Option Read → List ℕ
reason_text key answer (Some read) =
    codes "\"" ++ (key ++ (codes "\" was read at " ++
    (time_text answer.time ++ (codes " by " ++ encode_utf8 read.name))))
reason_text key answer None = codes "\"" ++
    (key ++ (codes "\" may have been read up to " ++ time_text answer.time))

-- the text of a read of one key
abbrev pub key_read_text : Read → List ℕ
key_read_text read = encode_utf8 read.name ++
    (codes " read \"" ++ (read.from.now ++ (codes "\" at " ++ time_text (time_at read.wall))))

-- the text of a read from one key up to another
abbrev pub range_read_text : Read → List ℕ
range_read_text read = encode_utf8 read.name ++
    (codes " read \"" ++ (read.from.now ++
    (codes "\" up to \"" ++ (read.to.now ++ (codes "\" at " ++ time_text (time_at read.wall))))))

-- the text of a read: up to which key, where there is one
abbrev pub read_text : Read → List ℕ
read_text read = if length read.to.now == 0 then key_read_text read else range_read_text read

-- the text of a summary: in how many marks it was to be told, its floor, and how many marks it has
abbrev pub summary_text : ℕ → Time → ℕ → List ℕ
summary_text most floor marks = codes "handed on in at most " ++
    (decimal most ++ (codes " marks: a floor of " ++
    (time_text floor ++ (codes " and " ++ (decimal marks ++ codes " marks")))))

-- the text of a write at the time that it wants
abbrev pub wanted_text : Write → Time → List ℕ
wanted_text write at = encode_utf8 write.name ++
    (codes " may write \"" ++ (write.key.now ++
    (codes "\" at " ++ (time_text at ++ codes ", as it wanted"))))

-- the text of a write that is pushed to a later time, and by what
abbrev pub pushed_text : Write → Time → List ℕ → List ℕ
pushed_text write at reason = encode_utf8 write.name ++
    (codes " wanted to write \"" ++
    (write.key.now ++ (codes "\" at " ++
    (time_text (time_at write.wall) ++
    (codes ", is pushed to " ++ (time_text at ++ (codes ": " ++ reason)))))))

-- the text of a write, which may be laid down at the time that it wants, or is pushed, perhaps by
-- one of these reads
abbrev pub write_text : Write → Time → ValueView → List Read → List ℕ
write_text write at answer reads =
    if is_before (time_at write.wall) at then pushed_text write at
    (reason_text write.key.now answer (reader answer.owner reads)) else wanted_text write at
