-- How the command that replays a trace ends: what it did, its exit status, and what it tells.
use Rattle.std.specs.Prelude.{◌≡◌, ◌++◌, ℕ, List, ◌⊎◌, ◌∷◌, []}
use Rattle.tsc_trace.specs.LogText.{line_feed}
use Rattle.tsc_trace.specs.Replay.{Done, StopsReplay, fault_text}
use Rattle.tsc_stream.specs.Stream.{KnownReader, KnownWriter, HasWritten, CouldNotWrite}
use Rattle.tsc_trace_format.specs.declared.read.TraceFault.TheVariants as trace_fault
use Rattle.tsc_trace.specs.declared.stream_replays.ReplayFault.{ReplayFault}
use Rattle.tsc_trace.specs.declared.stream_replays.ReplayFault.TheVariants.{Read, TooLong, Trace as Refused, Write, NoMemory}

-- the exit status of a fault
abbrev pub status_of : ReplayFault → ℕ
status_of Read = 4
status_of TooLong = 4
status_of (Refused trace_fault.NotJson) = 1
status_of (Refused (trace_fault.Shape call)) = 1
status_of (Refused (trace_fault.Number call)) = 1
status_of (Refused (trace_fault.Hex call)) = 1
status_of (Refused (trace_fault.Uuid call)) = 1
status_of (Refused (trace_fault.Span call)) = 1
status_of (Refused trace_fault.Config) = 1
status_of (Refused trace_fault.NoMemory) = 5
status_of (Refused (trace_fault.TooLarge call)) = 1
status_of Write = 4
status_of NoMemory = 5

-- the line that tells a fault
abbrev pub fault_line : ReplayFault → List ℕ
fault_line fault = fault_text fault ++ line_feed ∷ []

-- A line was written, or a write failed, where a part of the line was written.
abbrev pub Reports : List ℕ → KnownWriter → KnownWriter → Type 0
Reports line errors errors' = HasWritten errors errors' line ⊎ CouldNotWrite errors errors' line

-- The replay was done, with exit status 0, and nothing was told.
pub record Succeeds (status : ℕ) (reader reader' : KnownReader)
    (writer writer' errors errors' : KnownWriter) : Type 0 where
  pub done : Done reader reader' writer writer'
  pub is_status : status ≡ 0
  pub quiet : errors' ≡ errors

-- The replay ended early, and its fault was told, with the exit status of that fault.
pub record Fails (status : ℕ) (reader reader' : KnownReader)
    (writer writer' errors errors' : KnownWriter) : Type 0 where
  pub fault : ReplayFault
  pub stopped : StopsReplay fault reader reader' writer writer'
  pub is_status : status ≡ status_of fault
  pub reported : Reports (fault_line fault) errors errors'

-- how the command ends
abbrev pub EndsReplay : ℕ → KnownReader → KnownReader → KnownWriter → KnownWriter → KnownWriter →
    KnownWriter → Type 0
EndsReplay status reader reader' writer writer' errors errors' =
    Succeeds status reader reader' writer writer' errors errors' ⊎
    Fails status reader reader' writer writer' errors errors'
