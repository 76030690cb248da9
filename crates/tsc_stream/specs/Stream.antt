-- What is known of a reader and a writer that may be called a bounded number of times, and of a
-- whole input and output.
use Rattle.std.specs.Prelude.{◌≡◌, ◌≢◌, ◌⊎◌, ℕ, zero, suc, ◌+◌, ◌-◌, ◌<◌, ◌≤◌, List, [], length, take, Bool, true, false, ◌||◌, Option, Result, Ok, Err, IfErr}
use Rattle.std.specs.declared.io.ErrorKind.{ErrorKind}
use Rattle.std.specs.declared.io.ErrorKind.TheVariants as kind
use Rattle.std.specs.Io.KnownBytes.{Appends, Consumes, IsAtEnd}
use Rattle.tsc_stream.specs.Limits.{longest_input, most_turns}
use Rattle.tsc_stream.specs.declared.stream.StreamFault.{StreamFault}
use Rattle.tsc_stream.specs.declared.stream.StreamFault.TheVariants.{Interrupted, Failed}
use Rattle.tsc_stream.specs.declared.stream.Phase.{Phase}
use Rattle.tsc_stream.specs.declared.stream.Phase.TheVariants as phase
use Rattle.tsc_stream.specs.declared.input.InputFault.{InputFault}
use Rattle.tsc_stream.specs.declared.input.InputFault.TheVariants.{Read, TooLong, NoMemory}

-- with which troubles a call may end
abbrev pub Troubles : Type 0
Troubles = StreamFault → Bool

-- a call may end with no trouble
abbrev pub no_trouble : Troubles
no_trouble trouble = false

-- a call may end with any trouble
abbrev pub any_trouble : Troubles
any_trouble trouble = true

-- a call may end with a failure alone
abbrev pub only_failures : Troubles
only_failures Interrupted = false
only_failures Failed = true

-- A call that ended in an error ended in one of these troubles: every kind of error but an
-- interruption is a failure.
pub record ErrsWithin (troubles : Troubles) (reported : Result ℕ ErrorKind) : Type 0 where
  pub interrupted : reported ≡ Err kind.Interrupted → troubles Interrupted ≡ true
  pub failed : IfErr reported (λ error. error ≢ kind.Interrupted → troubles Failed ≡ true)

-- What is known of a reader: the bytes that it has left, where they are known, with which troubles
-- a read may end, whether it may be read on, has told its end or has failed, and how many more
-- reads there may be.
pub record KnownReader : Type 0 where
  pub bytes : Option (List ℕ)
  pub troubles : Troubles
  pub phase : Phase
  pub turns : ℕ

-- What is known of a writer: the bytes that it holds, where they are known, with which troubles a
-- write may end, whether one has failed, and how many more there may be.
pub record KnownWriter : Type 0 where
  pub bytes : Option (List ℕ)
  pub troubles : Troubles
  pub has_failed : Bool
  pub turns : ℕ

-- a reader of these bytes, and with these troubles, that was not called yet
abbrev pub fresh_reader : Option (List ℕ) → Troubles → KnownReader
fresh_reader known troubles = record {
  bytes = known;
  troubles = troubles;
  phase = phase.Open;
  turns = most_turns;
}

-- a writer with these bytes, and with these troubles, that was not called yet
abbrev pub fresh_writer : Option (List ℕ) → Troubles → KnownWriter
fresh_writer known troubles = record {
  bytes = known;
  troubles = troubles;
  has_failed = false;
  turns = most_turns;
}

-- whether a call failed for good
abbrev pub is_failure : {T : Type 0} → Result T StreamFault → Bool
is_failure (Ok x) = false
is_failure (Err Interrupted) = false
is_failure (Err Failed) = true

-- how far a reader is after a read that gave this: to give no byte is to tell the end
abbrev pub phase_after : Result ℕ StreamFault → Phase
phase_after (Ok zero) = phase.Ended
phase_after (Ok (suc n)) = phase.Open
phase_after (Err Interrupted) = phase.Open
phase_after (Err Failed) = phase.Failed

-- No read can be made any more, but one that tells the end again: one has failed, or none is left.
abbrev pub IsSpentReader : KnownReader → Type 0
IsSpentReader reader = (reader.phase ≡ phase.Failed) ⊎
    ((reader.turns ≡ 0) × (reader.phase ≢ phase.Ended))

-- No write can be made any more: one has failed, or none is left.
abbrev pub IsSpentWriter : KnownWriter → Type 0
IsSpentWriter writer = (writer.has_failed ≡ true) ⊎ (writer.turns ≡ 0)

-- A reader that has told its end tells it again, and one that is spent fails.
pub record StaysAtEnd (reader : KnownReader) (reported : Result ℕ StreamFault) : Type 0 where
  pub ended : reader.phase ≡ phase.Ended → reported ≡ Ok 0
  pub failed : IsSpentReader reader → reported ≡ Err Failed

-- What one read makes of a reader, beside the bytes.
pub record AfterRead (old new : KnownReader) (reported : Result ℕ StreamFault) : Type 0 where
  pub phase : new.phase ≡ phase_after reported
  pub turn : new.turns ≡ old.turns - 1
  pub troubles : new.troubles ≡ old.troubles

-- What one write makes of a writer, beside the bytes.
pub record AfterWrite (old new : KnownWriter) (reported : Result ℕ StreamFault) : Type 0 where
  pub remembers : new.has_failed ≡ (old.has_failed || is_failure reported)
  pub turn : new.turns ≡ old.turns - 1
  pub troubles : new.troubles ≡ old.troubles

-- A reader told its end, no read failed, and this is all that it had.
pub record HasRead (old new : KnownReader) (input : List ℕ) : Type 0 where
  pub consumed : Consumes old.bytes new.bytes input
  pub at_end : IsAtEnd new.bytes
  pub ended : new.phase ≡ phase.Ended
  pub within : length input ≤ longest_input

-- No more came from a reader than an input may have.
pub record HasReadWithin (old new : KnownReader) : Type 0 where
  pub read : List ℕ
  pub consumed : Consumes old.bytes new.bytes read
  pub within : length read ≤ longest_input

-- Each read that was left was made. Where none may be interrupted, each gave at least one of these
-- bytes.
pub record HasUsedReads (old new : KnownReader) (read : List ℕ) : Type 0 where
  pub none_left : new.turns ≡ 0
  pub each_gave : old.troubles Interrupted ≡ false → old.turns ≤ length read

-- why a read failed after these bytes: one had failed before, or may fail, or no read is left
abbrev pub WhyNotRead : KnownReader → KnownReader → List ℕ → Type 0
WhyNotRead old new read = (old.phase ≡ phase.Failed) ⊎ (old.troubles Failed ≡ true) ⊎
    HasUsedReads old new read

-- A read failed before the end was told, and before more had come than an input may have.
pub record CouldNotRead (old new : KnownReader) : Type 0 where
  pub begun : HasReadWithin old new
  pub failed : new.phase ≡ phase.Failed
  pub why : WhyNotRead old new begun.read

-- More came from a reader than an input may have, before it told an end. No read failed.
pub record HasReadTooMuch (old new : KnownReader) : Type 0 where
  pub read : List ℕ
  pub consumed : Consumes old.bytes new.bytes read
  pub beyond : longest_input < length read
  pub goes_on : new.phase ≡ phase.Open

-- Memory was wanting: before the first read, or where no read has failed.
pub record RanOutReading (old new : KnownReader) : Type 0 where
  pub begun : HasReadWithin old new
  pub unfailed : (new ≡ old) ⊎ (new.phase ≢ phase.Failed)

-- why reading stopped
abbrev pub StopsReading : InputFault → KnownReader → KnownReader → Type 0
StopsReading Read old new = CouldNotRead old new
StopsReading TooLong old new = HasReadTooMuch old new
StopsReading NoMemory old new = RanOutReading old new

-- A writer took a whole text, and no write failed: nor has one before, unless there was nothing to
-- write. Where no write may be interrupted, each took at least one byte.
pub record HasWritten (old new : KnownWriter) (text : List ℕ) : Type 0 where
  pub appended : Appends old.bytes new.bytes text
  pub unfailed : new.has_failed ≡ old.has_failed
  pub taken : text ≢ [] → new.has_failed ≡ false
  pub troubles : new.troubles ≡ old.troubles
  pub each_took : old.troubles Interrupted ≡ false → old.turns ≤ new.turns + length text

-- Each write that was left was made. Where none may be interrupted, each took at least one of the
-- `written` bytes.
pub record HasUsedWrites (old new : KnownWriter) (written : ℕ) : Type 0 where
  pub none_left : new.turns ≡ 0
  pub each_took : old.troubles Interrupted ≡ false → old.turns ≤ written

-- why a write failed after a number of bytes: one had failed before, or may fail, or none is left
abbrev pub WhyNotWritten : KnownWriter → KnownWriter → ℕ → Type 0
WhyNotWritten old new written = (old.has_failed ≡ true) ⊎ (old.troubles Failed ≡ true) ⊎
    HasUsedWrites old new written

-- A write failed, and the writer took a part from the text's start that is not all of it.
pub record CouldNotWrite (old new : KnownWriter) (text : List ℕ) : Type 0 where
  pub written : ℕ
  pub part : written < length text
  pub appended : Appends old.bytes new.bytes (take written text)
  pub failed : new.has_failed ≡ true
  pub why : WhyNotWritten old new written
