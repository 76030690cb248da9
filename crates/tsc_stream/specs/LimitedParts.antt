-- What is known of a limited reader or writer.
use Rattle.std.specs.Prelude.{ℕ, List, [], Option, option_map, Bool, true, false}
use Rattle.tsc_stream.specs.Stream.{KnownReader, KnownWriter, Troubles}
use Rattle.tsc_stream.specs.declared.limited.Limited.{Limited}
use Rattle.tsc_stream.specs.declared.stream.Phase.{Phase}
use Rattle.tsc_stream.specs.declared.stream.Phase.TheVariants as phase

-- what is wrapped
abbrev pub inner_of : {T : Type 0} → Limited T → T
inner_of m = m.inner

-- how many calls are left
abbrev pub turns_of : {T : Type 0} → Limited T → ℕ
turns_of m = m.turns

-- how far it has come
abbrev pub phase_in : {T : Type 0} → Limited T → Phase
phase_in m = m.phase

-- what a reader has left, of which the one inside has these bytes: nothing, once it has told its
-- end
abbrev pub left_in : Phase → Option (List ℕ) → Option (List ℕ)
left_in phase.Open known = known
left_in phase.Ended known = option_map (λ bytes. []) known
left_in phase.Failed known = known

-- what is known of it as a reader, of which the one inside has these bytes left, and these troubles
abbrev pub reader_of : {T : Type 0} → Option (List ℕ) → Troubles → Limited T → KnownReader
reader_of known troubles m = record {
  bytes = left_in m.phase known;
  troubles = troubles;
  phase = m.phase;
  turns = m.turns;
}

-- whether a call has failed
abbrev pub is_failed : Phase → Bool
is_failed phase.Open = false
is_failed phase.Ended = false
is_failed phase.Failed = true

-- what is known of it as a writer, of which the one inside holds these bytes, and has these
-- troubles
abbrev pub writer_of : {T : Type 0} → Option (List ℕ) → Troubles → Limited T → KnownWriter
writer_of known troubles m = record {
  bytes = known;
  troubles = troubles;
  has_failed = is_failed m.phase;
  turns = m.turns;
}
