-- What a run from a reader to a writer reads and writes, and why it may end early.
use Rattle.std.specs.Prelude.{◌≡◌, List, ℕ, codes}
use Rattle.tsc_shared.specs.declared.answers.OpenFault.TheVariants as open_fault
use Rattle.tsc_trace.specs.LogText.{log_text}
use Rattle.tsc_trace.specs.Replay.{HasReadTrace, RefusedAs, NotRead, TooMuchRead, OutOfMemory, fault_text as stream_text}
use Rattle.tsc_stream.specs.Stream.{KnownReader, KnownWriter, HasWritten, CouldNotWrite}
use Rattle.tsc_trace_format.specs.Traces.{Trace}
use Rattle.tsc_trace.specs.declared.log.Line.{Line}
use Rattle.tsc_trace.specs.declared.stream_replays.ReplayFault.TheVariants.{Read, TooLong, Trace as Refused, Write, NoMemory}
use Rattle.tsc_check.specs.Verdict.{verdict_of}
use Rattle.tsc_check.specs.declared.verdict.Verdict.TheVariants.{Right}
use Rattle.tsc_run.specs.declared.fault.RunFault.{RunFault}
use Rattle.tsc_run.specs.declared.fault.RunFault.TheVariants as run_fault
use Rattle.tsc_run.specs.declared.stream_runs.RunStop.{RunStop}
use Rattle.tsc_run.specs.declared.stream_runs.RunStop.TheVariants.{Stream, NoView, NoPlace, HistoryFull, NoThread}

-- All of a trace was read, and the text of a log was written, of which the verdict is right, and
-- nothing else.
pub record Ran (reader reader' : KnownReader) (writer writer' : KnownWriter) : Type 0 where
  pub trace : Trace
  pub read : HasReadTrace reader reader' trace
  pub lines : List Line
  pub right : verdict_of trace lines ≡ Right
  pub wrote : HasWritten writer writer' (log_text lines)

-- All of a trace was read, and a write failed, where a part of the text of such a log was written.
pub record LogNotWritten (reader reader' : KnownReader) (writer writer' : KnownWriter) : Type
    0 where
  pub trace : Trace
  pub read : HasReadTrace reader reader' trace
  pub lines : List Line
  pub right : verdict_of trace lines ≡ Right
  pub wrote : CouldNotWrite writer writer' (log_text lines)

-- All of a trace was read, and its run gave no log. Nothing was written.
pub record NotRun (reader reader' : KnownReader) (writer writer' : KnownWriter) : Type 0 where
  pub trace : Trace
  pub read : HasReadTrace reader reader' trace
  pub silent : writer' ≡ writer

-- What a run can end with in place of a log: a growth was refused, or a thread was not started. It
-- has seats enough for all lists and a place for each, each lookup is answered, and there may be as
-- many Adds as the lists have.
abbrev pub CanEndRun : RunFault → Type 0
CanEndRun (run_fault.Open why) = why ≡ open_fault.NoMemory
CanEndRun run_fault.NoMemory = Unit {0}
CanEndRun run_fault.Gone = ⊥
CanEndRun run_fault.HistoryFull = ⊥
CanEndRun run_fault.NoThread = Unit {0}

-- how a run that stopped so ended
abbrev pub StopsRun : RunStop → KnownReader → KnownReader → KnownWriter → KnownWriter → Type 0
StopsRun (Stream Read) reader reader' writer writer' = NotRead reader reader' writer writer'
StopsRun (Stream TooLong) reader reader' writer writer' = TooMuchRead reader reader' writer writer'
StopsRun (Stream (Refused fault)) reader reader' writer writer' =
    RefusedAs fault reader reader' writer writer'
StopsRun (Stream Write) reader reader' writer writer' = LogNotWritten reader reader' writer writer'
StopsRun (Stream NoMemory) reader reader' writer writer' = OutOfMemory reader reader' writer writer'
StopsRun NoView reader reader' writer writer' = ⊥
StopsRun NoPlace reader reader' writer writer' = ⊥
StopsRun HistoryFull reader reader' writer writer' = ⊥
StopsRun NoThread reader reader' writer writer' = NotRun reader reader' writer writer'

-- how a fault of a run ends it
abbrev pub stop_of_run : RunFault → RunStop
stop_of_run (run_fault.Open open_fault.NoPlace) = NoPlace
stop_of_run (run_fault.Open why) = Stream NoMemory
stop_of_run run_fault.NoMemory = Stream NoMemory
stop_of_run run_fault.Gone = NoView
stop_of_run run_fault.HistoryFull = HistoryFull
stop_of_run run_fault.NoThread = NoThread

-- the text of why it ended
abbrev pub stop_text : RunStop → List ℕ
stop_text (Stream fault) = stream_text fault
stop_text NoView = codes "no view"
stop_text NoPlace = codes "no place"
stop_text HistoryFull = codes "history full"
stop_text NoThread = codes "no thread"
