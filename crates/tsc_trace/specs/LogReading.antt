-- What the bytes of a log read as: the lines whose text they are, or where they stop being the text
-- of lines.
use Rattle.std.specs.Prelude.{◌≡◌, ◌≢◌, ℕ, suc, ◌<◌, ◌≤◌, ◌^◌, List, [], ◌∷◌, ◌++◌, length, All, true, Result, Ok, Err}
use Rattle.tsc_time.specs.Time.{is_in_range}
use Rattle.tsc_time.specs.ValueView.{IsMadeValue}
use Rattle.tsc_trace.specs.declared.log.Line.{Line}
use Rattle.tsc_trace.specs.declared.log.Log.{Log}
use Rattle.tsc_trace.specs.declared.log.CallAnswer.{CallAnswer}
use Rattle.tsc_trace.specs.declared.log.CallAnswer.TheVariants as said
use Rattle.tsc_trace.specs.declared.log_reader.LogFault.{LogFault}
use Rattle.tsc_trace.specs.declared.log_reader.LogFault.TheVariants.{Text, Length, NoMemory}
use Rattle.tsc_trace.specs.Limits.{most_lines}
use Rattle.tsc_trace.specs.LogText.{line_feed, line_text, log_text}

-- An answer that a log can hold: its counts take 64 bits, and its time and owner can be made.
abbrev pub IsWritableAnswer : CallAnswer → Type 0
IsWritableAnswer (said.Add place added) = (place < 2 ^ 64) × (added.evicted < 2 ^ 64)
IsWritableAnswer (said.Batch place added) = (place < 2 ^ 64) × (added.evicted < 2 ^ 64)
IsWritableAnswer (said.Get front value) = (front < 2 ^ 64) × IsMadeValue value
IsWritableAnswer (said.Low front time) = (front < 2 ^ 64) × (is_in_range time ≡ true)

-- A line that a log can hold: the number of its list, and its place there, take 32 bits.
pub record IsWritable (line : Line) : Type 0 where
  pub thread : line.thread < 2 ^ 32
  pub index : line.index < 2 ^ 32
  pub said : IsWritableAnswer line.said

-- Lines that a log can hold, and not too many of them.
pub record IsLog (lines : List Line) : Type 0 where
  pub writable : All IsWritable lines
  pub within : length lines ≤ most_lines

-- The bytes are the text of these lines.
pub record IsTextOf (bytes : List ℕ) (lines : List Line) : Type 0 where
  pub text : bytes ≡ log_text lines
  pub is_log : IsLog lines

-- The bytes do not begin with a line and its line feed.
abbrev pub HasNoLine : List ℕ → Type 0
HasNoLine bytes = (line : Line) (after : List ℕ) → IsWritable line →
    bytes ≢ line_text line ++ line_feed ∷ after

-- After the text of the lines before this one, counted from 1, there is more, and it does not begin
-- with a line.
pub record IsWrongAt (bytes : List ℕ) (number : ℕ) : Type 0 where
  pub before : List Line
  pub rest : List ℕ
  pub text : bytes ≡ log_text before ++ rest
  pub writable : All IsWritable before
  pub room : length before < most_lines
  pub place : number ≡ suc (length before)
  pub more : rest ≢ []
  pub wrong : HasNoLine rest

-- After the text of as many lines as a log may have there is more.
pub record IsTooLong (bytes : List ℕ) : Type 0 where
  pub before : List Line
  pub rest : List ℕ
  pub text : bytes ≡ log_text before ++ rest
  pub writable : All IsWritable before
  pub full : length before ≡ most_lines
  pub more : rest ≢ []

-- What the bytes of a log read as. Want of memory says nothing of them.
abbrev pub ReadsAs : List ℕ → Result Log LogFault → Type 0
ReadsAs bytes (Ok log) = IsTextOf bytes log.lines
ReadsAs bytes (Err (Text number)) = IsWrongAt bytes number
ReadsAs bytes (Err Length) = IsTooLong bytes
ReadsAs bytes (Err NoMemory) = Unit {0}

-- No bytes read as two things.
abbrev pub OneReading : Type 0
OneReading = (bytes : List ℕ) (a b : Result Log LogFault) → a ≢ Err NoMemory → b ≢ Err NoMemory →
    ReadsAs bytes a → ReadsAs bytes b → a ≡ b

-- The text of a log reads as this log, and as nothing else.
abbrev pub ReadsBackLogs : Type 0
ReadsBackLogs = (log : Log) → IsLog log.lines → ReadsAs (log_text log.lines) (Ok log)
    × ((read : Result Log LogFault) → read ≢ Err NoMemory → ReadsAs (log_text log.lines) read →
    read ≡ Ok log)

-- What the text of these lines reads as: a log of just these lines, or too many of them. Want of
-- memory says nothing of them.
abbrev pub ReadsAgain : List Line → Result Log LogFault → Type 0
ReadsAgain lines (Ok log) = (log.lines ≡ lines) × (length lines ≤ most_lines)
ReadsAgain lines (Err (Text number)) = ⊥
ReadsAgain lines (Err Length) = most_lines < length lines
ReadsAgain lines (Err NoMemory) = Unit {0}
