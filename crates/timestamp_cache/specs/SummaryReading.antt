-- How bytes are read as a summary, from the first on.
use Rattle.std.specs.Prelude.{◌≡◌, ℕ, zero, suc, ◌+◌, ◌-◌, List, [], ◌∷◌, length, take, drop}
use Rattle.std.specs.Prelude.{Result, Ok, Err, nat_lt, ◌==◌, if◌then◌else◌}
use Rattle.std.specs.Str.{bytes_eq}
use Rattle.std.specs.Int.{Width, w32, w64, byte_len, from_be_bytes}
use Rattle.sha2.specs.Sha256.{sha256}
use Rattle.tsc_time.specs.Time.{Time, is_in_range}
use Rattle.tsc_time.specs.ValueView.{ValueView, owner_of}
use Rattle.tsc_span.specs.Span.{longest_key, KeyBytes, Cut, before, after, last, is_below, SpanView}
use Rattle.tsc_span.specs.Span.{nothing, between}
use Rattle.tsc_page_model.specs.Page.{Mark}
use Rattle.timestamp_cache.specs.declared.summary_fault.SummaryFault.{SummaryFault}
use Rattle.timestamp_cache.specs.declared.summary_fault.SummaryFault.TheVariants.{Version, Length}
use Rattle.timestamp_cache.specs.declared.summary_fault.SummaryFault.TheVariants.{Checksum, Form}
use Rattle.timestamp_cache.specs.declared.summary_fault.SummaryFault.TheVariants.{NoMemory}
use Rattle.timestamp_cache.specs.HandOver.{Summary}

-- a value, or why there is none
abbrev pub Read : Type 0 → Type 0
Read A = Result A SummaryFault

-- a value and the bytes behind it, or why there is none
abbrev pub Part : Type 0 → Type 0
Part A = Read (A × List ℕ)

infixl 10 ◌>>=◌
abbrev pub ◌>>=◌ : {A B : Type 0} → Read A → (A → Read B) → Read B
(Ok x) >>= f = f x
(Err fault) >>= f = Err fault

-- What a function answers, seen by view, is what is read. Or memory was refused.
abbrev pub Fails : {Y : Type 0} → SummaryFault → Read Y → Type 0
Fails NoMemory read = Unit {0}
Fails Version read = read ≡ Err Version
Fails Length read = read ≡ Err Length
Fails Checksum read = read ≡ Err Checksum
Fails Form read = read ≡ Err Form

abbrev pub Gives : {X Y : Type 0} → (X → Y) → Result X SummaryFault → Read Y → Type 0
Gives view (Ok x) read = read ≡ Ok (view x)
Gives view (Err fault) read = Fails fault read

-- What a reader answers, seen by view, and what it leaves unread, is what is read.
abbrev pub GivesPart : {X Y : Type 0} → (X → Y) → Result X SummaryFault → List ℕ → Part Y → Type 0
GivesPart view (Ok x) rest part = part ≡ Ok (view x, rest)
GivesPart view (Err fault) rest part = Fails fault part

abbrev pub byte_at : List ℕ → Part ℕ
byte_at [] = Err Form
byte_at (byte ∷ rest) = Ok (byte, rest)

-- the next bytes, by their number
abbrev pub bytes_at : ℕ → List ℕ → Part (List ℕ)
bytes_at n bytes = if nat_lt (length bytes) n then Err Form else Ok (take n bytes, drop n bytes)

abbrev pub number_at : Width → List ℕ → Part ℕ
number_at w bytes = do
  n ← bytes_at (byte_len w) bytes
  Ok (from_be_bytes w n.0, n.1)

unfoldable pub key_at : List ℕ → Part KeyBytes
key_at bytes = do
  n ← number_at w32 bytes
  if nat_lt longest_key n.0 then Err Form else bytes_at n.0 n.1

-- a place between keys, by which side of a key it is
abbrev pub cut_by : ℕ → List ℕ → Part Cut
cut_by zero bytes = do
  key ← key_at bytes
  Ok (before key.0, key.1)
cut_by (suc zero) bytes = do
  key ← key_at bytes
  Ok (after key.0, key.1)
cut_by (suc (suc zero)) bytes = Ok (last, bytes)
cut_by (suc (suc (suc side))) bytes = Err Form

unfoldable pub cut_at : List ℕ → Part Cut
cut_at bytes = do
  side ← byte_at bytes
  cut_by side.0 side.1

-- what lies between two places, where the first is below the second
abbrev pub between_of : Cut → Cut → Read SpanView
between_of from to = if is_below from to then Ok (between from to) else Err Form

unfoldable pub between_at : List ℕ → Part SpanView
between_at bytes = do
  from ← cut_at bytes
  to ← cut_at from.1
  span ← between_of from.0 to.0
  Ok (span, to.1)

-- a span, by whether something is in it
abbrev pub span_by : ℕ → List ℕ → Part SpanView
span_by zero bytes = Ok (nothing, bytes)
span_by (suc zero) bytes = between_at bytes
span_by (suc (suc kind)) bytes = Err Form

unfoldable pub span_at : List ℕ → Part SpanView
span_at bytes = do
  kind ← byte_at bytes
  span_by kind.0 kind.1

-- a time, where both of its parts are in range
abbrev pub time_of : ℕ → ℕ → Read Time
time_of wall logical =
    let t : Time = record { wall = wall; logical = logical } in
    if is_in_range t then Ok t else Err Form

unfoldable pub time_at : List ℕ → Part Time
time_at bytes = do
  wall ← number_at w64 bytes
  logical ← number_at w32 wall.1
  t ← time_of wall.0 logical.0
  Ok (t, logical.1)

unfoldable pub value_at : List ℕ → Part ValueView
value_at bytes = do
  t ← time_at bytes
  owner ← bytes_at 16 t.1
  Ok (record { time = t.0; owner = owner_of owner.0 }, owner.1)

unfoldable pub mark_at : List ℕ → Part Mark
mark_at bytes = do
  span ← span_at bytes
  value ← value_at span.1
  Ok (record { span = span.0; value = value.0 }, value.1)

-- the next marks, by their number
unfoldable pub marks_at : ℕ → List ℕ → Part (List Mark)
marks_at zero bytes = Ok ([], bytes)
marks_at (suc n) bytes = do
  first ← mark_at bytes
  others ← marks_at n first.1
  Ok (first.0 ∷ others.0, others.1)

-- how many marks there are, and the marks
unfoldable pub counted_at : List ℕ → Part (List Mark)
counted_at bytes = do
  count ← number_at w64 bytes
  marks_at count.0 count.1

-- a floor, and the marks above it
abbrev pub reads_at : List ℕ → Part (Time × List Mark)
reads_at bytes = do
  floor ← time_at bytes
  marks ← counted_at floor.1
  Ok ((floor.0, marks.0), marks.1)

unfoldable pub reported_at : List ℕ → Part Summary
reported_at bytes = do
  span ← span_at bytes
  reads ← reads_at span.1
  Ok (record { span = span.0; floor = reads.0.0; marks = reads.0.1 }, reads.1)

-- all of the bytes as the content of a summary
unfoldable pub reported_by : List ℕ → Read Summary
reported_by bytes = do
  reported ← reported_at bytes
  if length reported.1 == 0 then Ok reported.0 else Err Form

-- the content behind the version and the content's length, where bytes of that length and a digest
-- stand, and the digest is that of all before it
unfoldable pub content_at : List ℕ → Read (List ℕ)
content_at bytes =
    if nat_lt (length bytes) 41 then Err Length
    else let n = from_be_bytes w64 (take 8 (drop 1 bytes)) in
    if n == length bytes - 41
    then (if bytes_eq (sha256 (take (9 + n) bytes)) (drop (9 + n) bytes)
    then Ok (drop 9 (take (9 + n) bytes)) else Err Checksum)
    else Err Length

-- the content, where the version is the one
unfoldable pub unsealed : List ℕ → Read (List ℕ)
unsealed [] = Err Length
unsealed (zero ∷ rest) = Err Version
unsealed (suc zero ∷ rest) = content_at (1 ∷ rest)
unsealed (suc (suc version) ∷ rest) = Err Version

-- the summary that bytes are
abbrev pub summary_of : List ℕ → Read Summary
summary_of bytes = unsealed bytes >>= reported_by
