-- How the command that runs a trace on threads ends: what it did, its exit status, and what it
-- tells.
use Rattle.std.specs.Prelude.{◌≡◌, ◌++◌, ℕ, List, ◌⊎◌, ◌∷◌, []}
use Rattle.tsc_trace.specs.LogText.{line_feed}
use Rattle.tsc_stream.specs.Stream.{KnownReader, KnownWriter}
use Rattle.tsc_run.specs.Ending.{Ran, StopsRun, stop_text}
use Rattle.tsc_run.specs.declared.stream_runs.RunStop.{RunStop}
use Rattle.tsc_run.specs.declared.stream_runs.RunStop.TheVariants.{Stream, NoView, NoPlace, HistoryFull, NoThread}
use Rattle.tsc_commands.specs.Replay.{Reports, status_of}

-- the exit status of why a run ended
abbrev pub stop_status : RunStop → ℕ
stop_status (Stream fault) = status_of fault
stop_status NoView = 4
stop_status NoPlace = 4
stop_status HistoryFull = 4
stop_status NoThread = 4

-- the line that tells it
abbrev pub stop_line : RunStop → List ℕ
stop_line stop = stop_text stop ++ line_feed ∷ []

-- The run was done, with exit status 0, and nothing was told.
pub record SucceedsRun (status : ℕ) (reader reader' : KnownReader)
    (writer writer' errors errors' : KnownWriter) : Type 0 where
  pub ran : Ran reader reader' writer writer'
  pub is_status : status ≡ 0
  pub quiet : errors' ≡ errors

-- The run ended early, and that was told, with its exit status. That no thread was to be had is
-- told only where the start of one was refused.
pub record FailsRun (refused : Type 0) (status : ℕ) (reader reader' : KnownReader)
    (writer writer' errors errors' : KnownWriter) : Type 0 where
  pub stop : RunStop
  pub stopped : StopsRun stop reader reader' writer writer'
  pub no_thread : stop ≡ NoThread → refused
  pub is_status : status ≡ stop_status stop
  pub reported : Reports (stop_line stop) errors errors'

-- how the command ends, where `refused` says that the start of a thread was refused
abbrev pub EndsRun : Type 0 → ℕ → KnownReader → KnownReader → KnownWriter → KnownWriter →
    KnownWriter → KnownWriter → Type 0
EndsRun refused status reader reader' writer writer' errors errors' =
    SucceedsRun status reader reader' writer writer' errors errors' ⊎
    FailsRun refused status reader reader' writer writer' errors errors'
