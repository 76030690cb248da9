-- What a check from two readers to a writer reads and writes, and why it may end early.
use Rattle.std.specs.Prelude.{◌≡◌, ◌≢◌, ◌++◌, ◌∷◌, [], ◌⊎◌, List, ℕ, Err, codes, decimal}
use Rattle.tsc_stream.specs.Stream.{KnownReader, KnownWriter, HasRead, CouldNotRead, HasReadTooMuch, RanOutReading, HasWritten, CouldNotWrite}
use Rattle.tsc_trace_format.specs.Traces.{Trace}
use Rattle.tsc_trace.specs.LogText.{line_feed}
use Rattle.tsc_trace.specs.LogReading.{IsTextOf, ReadsAs}
use Rattle.tsc_trace.specs.Replay.{HasReadTrace, NotRead, TooMuchRead, RefusedAs, OutOfMemory, fault_text as stream_text}
use Rattle.tsc_trace.specs.declared.log.Line.{Line}
use Rattle.tsc_trace.specs.declared.log_reader.LogFault.{LogFault}
use Rattle.tsc_trace.specs.declared.log_reader.LogFault.TheVariants as log_fault
use Rattle.tsc_trace.specs.declared.stream_replays.ReplayFault.TheVariants.{Read, TooLong, Trace as Refused, Write, NoMemory}
use Rattle.tsc_check.specs.Verdict.{verdict_of}
use Rattle.tsc_check.specs.declared.verdict.Verdict.{Verdict}
use Rattle.tsc_check.specs.declared.verdict.Verdict.TheVariants.{Right, WrongCall, WrongPlace, WrongAnswer}
use Rattle.tsc_check.specs.declared.stream_checks.CheckFault.{CheckFault}
use Rattle.tsc_check.specs.declared.stream_checks.CheckFault.TheVariants.{Stream, Text, Length}

-- the text of a verdict
abbrev pub verdict_text : Verdict → List ℕ
verdict_text Right = codes "right"
verdict_text (WrongCall i) = codes "wrong call " ++ decimal i
verdict_text (WrongPlace i) = codes "wrong place " ++ decimal i
verdict_text (WrongAnswer i) = codes "wrong answer " ++ decimal i

-- the line of a verdict
abbrev pub verdict_line : Verdict → List ℕ
verdict_line verdict = verdict_text verdict ++ line_feed ∷ []

-- A reader told its end, and all that it had is the text of a log with these lines.
pub record HasReadLog (log log' : KnownReader) (lines : List Line) : Type 0 where
  pub input : List ℕ
  pub read : HasRead log log' input
  pub is_log : IsTextOf input lines

-- A reader told its end, and all that it had is the text of no log, for this reason.
pub record HasReadNoLog (fault : LogFault) (log log' : KnownReader) : Type 0 where
  pub input : List ℕ
  pub read : HasRead log log' input
  pub is_none : ReadsAs input (Err fault)
  pub is_seen : fault ≢ log_fault.NoMemory

-- how reading a log ended with this fault
abbrev pub StopsReadingLog : CheckFault → KnownReader → KnownReader → Type 0
StopsReadingLog (Stream Read) log log' = CouldNotRead log log'
StopsReadingLog (Stream TooLong) log log' = HasReadTooMuch log log'
StopsReadingLog (Stream (Refused fault)) log log' = ⊥
StopsReadingLog (Stream Write) log log' = ⊥
StopsReadingLog (Stream NoMemory) log log' = RanOutReading log log'
StopsReadingLog (Text number) log log' = HasReadNoLog (log_fault.Text number) log log'
StopsReadingLog Length log log' = HasReadNoLog log_fault.Length log log'

-- All of a trace and of a log was read, and the line of the verdict on them was written, and
-- nothing else.
pub record Checked (verdict : Verdict) (reader reader' log log' : KnownReader)
    (writer writer' : KnownWriter) : Type 0 where
  pub trace : Trace
  pub read : HasReadTrace reader reader' trace
  pub lines : List Line
  pub read_log : HasReadLog log log' lines
  pub is_verdict : verdict ≡ verdict_of trace lines
  pub wrote : HasWritten writer writer' (verdict_line verdict)

-- All of a trace and of a log was read, and a write failed, where a part of the line of the verdict
-- on them was written.
pub record VerdictNotWritten (reader reader' log log' : KnownReader) (writer writer' : KnownWriter)
    : Type 0 where
  pub trace : Trace
  pub read : HasReadTrace reader reader' trace
  pub lines : List Line
  pub read_log : HasReadLog log log' lines
  pub wrote : CouldNotWrite writer writer' (verdict_line (verdict_of trace lines))

-- All of a trace was read, and then a read of the log failed. Nothing was written.
pub record LogNotRead (reader reader' log log' : KnownReader) (writer writer' : KnownWriter) : Type
    0 where
  pub trace : Trace
  pub read : HasReadTrace reader reader' trace
  pub read_log : CouldNotRead log log'
  pub silent : writer' ≡ writer

-- All of a trace was read, and there was more of the log than an input may have. Nothing was
-- written.
pub record TooMuchLog (reader reader' log log' : KnownReader) (writer writer' : KnownWriter) : Type
    0 where
  pub trace : Trace
  pub read : HasReadTrace reader reader' trace
  pub read_log : HasReadTooMuch log log'
  pub silent : writer' ≡ writer

-- All of a trace was read, and all that the other reader had is the text of no log, for this
-- reason. Nothing was written.
pub record LogRefusedAs (fault : LogFault) (reader reader' log log' : KnownReader)
    (writer writer' : KnownWriter) : Type 0 where
  pub trace : Trace
  pub read : HasReadTrace reader reader' trace
  pub input : List ℕ
  pub read_log : HasRead log log' input
  pub is_none : ReadsAs input (Err fault)
  pub is_seen : fault ≢ log_fault.NoMemory
  pub silent : writer' ≡ writer

-- All of a trace was read, and then memory was wanting. No read failed, and nothing was written.
pub record OutOfMemoryAfterTrace (reader reader' log log' : KnownReader)
    (writer writer' : KnownWriter) : Type 0 where
  pub trace : Trace
  pub read : HasReadTrace reader reader' trace
  pub read_log : RanOutReading log log'
  pub silent : writer' ≡ writer

-- how a check with this fault ended: the log's reader stays as it was unless all of a trace was
-- read
abbrev pub StopsCheck : CheckFault → KnownReader → KnownReader → KnownReader → KnownReader →
    KnownWriter → KnownWriter → Type 0
StopsCheck (Stream Read) reader reader' log log' writer writer' =
    (NotRead reader reader' writer writer' × (log' ≡ log)) ⊎
    LogNotRead reader reader' log log' writer writer'
StopsCheck (Stream TooLong) reader reader' log log' writer writer' =
    (TooMuchRead reader reader' writer writer' × (log' ≡ log)) ⊎
    TooMuchLog reader reader' log log' writer writer'
StopsCheck (Stream (Refused fault)) reader reader' log log' writer writer' =
    RefusedAs fault reader reader' writer writer' × (log' ≡ log)
StopsCheck (Stream Write) reader reader' log log' writer writer' =
    VerdictNotWritten reader reader' log log' writer writer'
StopsCheck (Stream NoMemory) reader reader' log log' writer writer' =
    (OutOfMemory reader reader' writer writer' × (log' ≡ log)) ⊎
    OutOfMemoryAfterTrace reader reader' log log' writer writer'
StopsCheck (Text number) reader reader' log log' writer writer' =
    LogRefusedAs (log_fault.Text number) reader reader' log log' writer writer'
StopsCheck Length reader reader' log log' writer writer' =
    LogRefusedAs log_fault.Length reader reader' log log' writer writer'

-- how a fault of a log ends a check
abbrev pub fault_of_log : LogFault → CheckFault
fault_of_log (log_fault.Text number) = Text number
fault_of_log log_fault.Length = Length
fault_of_log log_fault.NoMemory = Stream NoMemory

-- the text of a fault
abbrev pub fault_text : CheckFault → List ℕ
fault_text (Stream fault) = stream_text fault
fault_text (Text number) = codes "log refused: fault 1 at line " ++ decimal number
fault_text Length = codes "log refused: fault 2"
