-- What is said of bytes: the log of a replay, the verdict of a check, or why there is neither.
use Rattle.std.specs.Prelude.{◌≡◌, ◌≢◌, ◌<◌, ◌≤◌, ◌⊎◌, ℕ, List, length, Ok, Err}
use Rattle.tsc_trace_format.specs.TraceText.{trace_of_bytes}
use Rattle.tsc_trace_format.specs.Traces.{Trace}
use Rattle.tsc_trace_format.specs.declared.read.TraceFault.TheVariants as trace_fault
use Rattle.tsc_trace.specs.LogReading.{IsTextOf, ReadsAs}
use Rattle.tsc_trace.specs.Replay.{replay_text, fault_text as trace_fault_text}
use Rattle.tsc_trace.specs.declared.log.Line.{Line as LogLine}
use Rattle.tsc_trace.specs.declared.log_reader.LogFault.TheVariants as log_fault
use Rattle.tsc_trace.specs.declared.stream_replays.ReplayFault.{ReplayFault}
use Rattle.tsc_trace.specs.declared.stream_replays.ReplayFault.TheVariants as replay_fault
use Rattle.tsc_check.specs.Verdict.{verdict_of}
use Rattle.tsc_check.specs.Checking.{verdict_line, fault_text as check_fault_text}
use Rattle.tsc_check.specs.declared.stream_checks.CheckFault.{CheckFault}
use Rattle.tsc_check.specs.declared.stream_checks.CheckFault.TheVariants.{Stream, Text as Line, Length}
use Rattle.tsc_check.specs.TextLimit.{longest_text}
use Rattle.tsc_check.specs.declared.bytes.Outcome.{Outcome}
use Rattle.tsc_check.specs.declared.bytes.Outcome.TheVariants.{Text, Refused}

-- The bytes are a trace, and no more than a command takes.
pub record IsTrace (bytes : List ℕ) (trace : Trace) : Type 0 where
  pub within : length bytes ≤ longest_text
  pub read : trace_of_bytes bytes ≡ Ok trace

-- Why bytes are no trace, by the faults of a replay. Want of memory says nothing of them.
abbrev pub IsNoTrace : List ℕ → ReplayFault → Type 0
IsNoTrace bytes replay_fault.Read = ⊥
IsNoTrace bytes replay_fault.TooLong = longest_text < length bytes
IsNoTrace bytes (replay_fault.Trace fault) = (length bytes ≤ longest_text) ×
    (trace_of_bytes bytes ≡ Err fault) × (fault ≢ trace_fault.NoMemory)
IsNoTrace bytes replay_fault.Write = ⊥
IsNoTrace bytes replay_fault.NoMemory = Unit {0}

-- The bytes are the text of a log with these lines, and no more than a command takes.
pub record IsLogText (bytes : List ℕ) (lines : List LogLine) : Type 0 where
  pub within : length bytes ≤ longest_text
  pub read : IsTextOf bytes lines

-- Why bytes beside a trace are no log, by the faults of a check.
abbrev pub IsNoLog : List ℕ → CheckFault → Type 0
IsNoLog bytes (Stream replay_fault.TooLong) = longest_text < length bytes
IsNoLog bytes (Stream replay_fault.NoMemory) = Unit {0}
IsNoLog bytes (Stream replay_fault.Read) = ⊥
IsNoLog bytes (Stream (replay_fault.Trace fault)) = ⊥
IsNoLog bytes (Stream replay_fault.Write) = ⊥
IsNoLog bytes (Line number) = (length bytes ≤ longest_text) ×
    ReadsAs bytes (Err (log_fault.Text number))
IsNoLog bytes Length = (length bytes ≤ longest_text) × ReadsAs bytes (Err log_fault.Length)

-- What a replay of bytes says: the text of its log, or of the fault.
abbrev pub SaysOfReplay : List ℕ → Outcome → Type 0
SaysOfReplay bytes (Text text) = (trace : Trace) × IsTrace bytes trace ×
    (text.items ≡ replay_text trace)
SaysOfReplay bytes (Refused text) = (fault : ReplayFault) × (fault ≢ replay_fault.NoMemory) ×
    IsNoTrace bytes fault × (text.items ≡ trace_fault_text fault)

-- Why there is no verdict: the trace is none, or it is one and the log is none.
abbrev pub HasNoVerdict : List ℕ → List ℕ → CheckFault → Type 0
HasNoVerdict bytes log fault = ((why : ReplayFault) × (fault ≡ Stream why) × IsNoTrace bytes why) ⊎
    ((trace : Trace) × IsTrace bytes trace × IsNoLog log fault)

-- What a check of bytes says: the line of the verdict, or the text of the fault.
abbrev pub SaysOfCheck : List ℕ → List ℕ → Outcome → Type 0
SaysOfCheck bytes log (Text text) = (trace : Trace) × (lines : List LogLine) × IsTrace bytes trace ×
    IsLogText log lines × (text.items ≡ verdict_line (verdict_of trace lines))
SaysOfCheck bytes log (Refused text) = (fault : CheckFault) ×
    (fault ≢ Stream replay_fault.NoMemory) × HasNoVerdict bytes log fault ×
    (text.items ≡ check_fault_text fault)
