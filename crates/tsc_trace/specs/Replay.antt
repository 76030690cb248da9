-- What a replay reads and writes, and why it may end early.
use Rattle.std.specs.Prelude.{◌≡◌, ◌≢◌, ◌++◌, List, ℕ, Ok, Err, codes, decimal}
use Rattle.tsc_trace_format.specs.TraceText.{trace_of_bytes}
use Rattle.tsc_trace.specs.Log.{log_of}
use Rattle.tsc_trace.specs.LogText.{log_text}
use Rattle.tsc_stream.specs.Stream.{KnownReader, KnownWriter, HasRead, CouldNotRead, HasReadTooMuch, RanOutReading, HasWritten, CouldNotWrite}
use Rattle.tsc_trace_format.specs.Traces.{Trace}
use Rattle.tsc_trace_format.specs.declared.read.TraceFault.{TraceFault}
use Rattle.tsc_trace_format.specs.declared.read.TraceFault.TheVariants as trace_fault
use Rattle.tsc_stream.specs.declared.input.InputFault.{InputFault}
use Rattle.tsc_stream.specs.declared.input.InputFault.TheVariants as input_fault
use Rattle.tsc_trace.specs.declared.stream_replays.WriteLogFault.{WriteLogFault}
use Rattle.tsc_trace.specs.declared.stream_replays.WriteLogFault.TheVariants as write_log_fault
use Rattle.tsc_trace.specs.declared.stream_replays.ReplayFault.{ReplayFault}
use Rattle.tsc_trace.specs.declared.stream_replays.ReplayFault.TheVariants.{Read, TooLong, Trace as Refused, Write, NoMemory}

-- the text that a replay of a trace writes
abbrev pub replay_text : Trace → List ℕ
replay_text trace = log_text (log_of trace)

-- why a text was not written: a write failed, or memory was wanting before the first write
abbrev pub StopsWriting : WriteLogFault → KnownWriter → KnownWriter → List ℕ → Type 0
StopsWriting write_log_fault.Write old new text = CouldNotWrite old new text
StopsWriting write_log_fault.NoMemory old new text = new ≡ old

-- A reader told its end, and all that it had is a trace.
pub record HasReadTrace (reader reader' : KnownReader) (trace : Trace) : Type 0 where
  pub input : List ℕ
  pub read : HasRead reader reader' input
  pub is_trace : trace_of_bytes input ≡ Ok trace

-- All of a trace was read, and the text of its replay was written, and nothing else.
pub record Done (reader reader' : KnownReader) (writer writer' : KnownWriter) : Type 0 where
  pub trace : Trace
  pub read : HasReadTrace reader reader' trace
  pub wrote : HasWritten writer writer' (replay_text trace)

-- A reader told its end, and all that it had is no trace, for this reason.
pub record HasReadNoTrace (fault : TraceFault) (reader reader' : KnownReader) : Type 0 where
  pub input : List ℕ
  pub read : HasRead reader reader' input
  pub is_none : trace_of_bytes input ≡ Err fault
  pub is_seen : fault ≢ trace_fault.NoMemory

-- how reading a trace ended with this fault
abbrev pub StopsReadingTrace : ReplayFault → KnownReader → KnownReader → Type 0
StopsReadingTrace Read reader reader' = CouldNotRead reader reader'
StopsReadingTrace TooLong reader reader' = HasReadTooMuch reader reader'
StopsReadingTrace (Refused fault) reader reader' = HasReadNoTrace fault reader reader'
StopsReadingTrace Write reader reader' = ⊥
StopsReadingTrace NoMemory reader reader' = RanOutReading reader reader'

-- A reader told its end, and all that it had is no trace, for this reason. Nothing was written.
pub record RefusedAs (fault : TraceFault) (reader reader' : KnownReader)
    (writer writer' : KnownWriter) : Type 0 where
  pub input : List ℕ
  pub read : HasRead reader reader' input
  pub is_none : trace_of_bytes input ≡ Err fault
  pub is_seen : fault ≢ trace_fault.NoMemory
  pub silent : writer' ≡ writer

-- A read failed. Nothing was written.
pub record NotRead (reader reader' : KnownReader) (writer writer' : KnownWriter) : Type 0 where
  pub read : CouldNotRead reader reader'
  pub silent : writer' ≡ writer

-- There was more to read than an input may have. Nothing was written.
pub record TooMuchRead (reader reader' : KnownReader) (writer writer' : KnownWriter) : Type 0 where
  pub read : HasReadTooMuch reader reader'
  pub silent : writer' ≡ writer

-- All of a trace was read, and a write failed, where a part of the text of its replay was written.
pub record NotWritten (reader reader' : KnownReader) (writer writer' : KnownWriter) : Type 0 where
  pub trace : Trace
  pub read : HasReadTrace reader reader' trace
  pub wrote : CouldNotWrite writer writer' (replay_text trace)

-- Memory was wanting, while a trace was read or after that. No read failed, and nothing was
-- written.
pub record OutOfMemory (reader reader' : KnownReader) (writer writer' : KnownWriter) : Type 0 where
  pub read : RanOutReading reader reader'
  pub silent : writer' ≡ writer

-- how a replay with this fault ended
abbrev pub StopsReplay : ReplayFault → KnownReader → KnownReader → KnownWriter →
    KnownWriter → Type 0
StopsReplay Read reader reader' writer writer' = NotRead reader reader' writer writer'
StopsReplay TooLong reader reader' writer writer' = TooMuchRead reader reader' writer writer'
StopsReplay (Refused fault) reader reader' writer writer' =
    RefusedAs fault reader reader' writer writer'
StopsReplay Write reader reader' writer writer' = NotWritten reader reader' writer writer'
StopsReplay NoMemory reader reader' writer writer' = OutOfMemory reader reader' writer writer'

-- how a fault of an input ends a replay
abbrev pub fault_of_input : InputFault → ReplayFault
fault_of_input input_fault.Read = Read
fault_of_input input_fault.TooLong = TooLong
fault_of_input input_fault.NoMemory = NoMemory

-- how a fault of a trace ends a replay
abbrev pub fault_of_trace : TraceFault → ReplayFault
fault_of_trace trace_fault.NotJson = Refused trace_fault.NotJson
fault_of_trace (trace_fault.Shape call) = Refused (trace_fault.Shape call)
fault_of_trace (trace_fault.Number call) = Refused (trace_fault.Number call)
fault_of_trace (trace_fault.Hex call) = Refused (trace_fault.Hex call)
fault_of_trace (trace_fault.Uuid call) = Refused (trace_fault.Uuid call)
fault_of_trace (trace_fault.Span call) = Refused (trace_fault.Span call)
fault_of_trace trace_fault.Config = Refused trace_fault.Config
fault_of_trace trace_fault.NoMemory = NoMemory
fault_of_trace (trace_fault.TooLarge call) = Refused (trace_fault.TooLarge call)

-- how a fault of an output ends a replay
abbrev pub fault_of_output : WriteLogFault → ReplayFault
fault_of_output write_log_fault.Write = Write
fault_of_output write_log_fault.NoMemory = NoMemory

-- the text of a fault
abbrev pub fault_text : ReplayFault → List ℕ
fault_text Read = codes "read failed"
fault_text TooLong = codes "input too long"
fault_text (Refused trace_fault.NotJson) = codes "trace refused: fault 1"
fault_text (Refused (trace_fault.Shape call)) =
    codes "trace refused: fault 2 at call " ++ decimal call
fault_text (Refused (trace_fault.Number call)) =
    codes "trace refused: fault 3 at call " ++ decimal call
fault_text (Refused (trace_fault.Hex call)) =
    codes "trace refused: fault 4 at call " ++ decimal call
fault_text (Refused (trace_fault.Uuid call)) =
    codes "trace refused: fault 5 at call " ++ decimal call
fault_text (Refused (trace_fault.Span call)) =
    codes "trace refused: fault 6 at call " ++ decimal call
fault_text (Refused trace_fault.Config) = codes "trace refused: fault 7"
fault_text (Refused trace_fault.NoMemory) = codes "out of memory"
fault_text (Refused (trace_fault.TooLarge call)) =
    codes "trace refused: fault 9 at call " ++ decimal call
fault_text Write = codes "write failed"
fault_text NoMemory = codes "out of memory"
