-- Lines that tell the truth of one history of a trace's Adds.
use Rattle.std.specs.Prelude.{◌≡◌, ℕ, suc, ◌+◌, ◌≤◌, List, [], ◌∷◌, ◌++◌, length, count_by}
use Rattle.tsc_cache.specs.ConfigView.{ConfigView}
use Rattle.tsc_cache.specs.History.{History, BeginsWith}
use Rattle.tsc_trace_format.specs.Calls.{adds}
use Rattle.tsc_trace_format.specs.declared.trace.Call.{Call}
use Rattle.tsc_trace_format.specs.Traces.{Trace}
use Rattle.tsc_trace.specs.Log.{said_after, after_call, log_of}
use Rattle.tsc_trace.specs.declared.log.Line.{Line}
use Rattle.tsc_check.specs.Verdict.{reach, verdict_of}
use Rattle.tsc_check.specs.declared.verdict.Verdict.TheVariants.{Right}

-- how many Adds a list has
abbrev pub adds_of_list : List Call → ℕ
adds_of_list calls = count_by adds calls

-- how many lists have together
abbrev pub adds_of_lists : List (List Call) → ℕ
adds_of_lists [] = 0
adds_of_lists (calls ∷ lists) = adds_of_list calls + adds_of_lists lists

-- A line tells the truth of a history: it says what its call answers after a first part of it,
-- which goes on with the call's own entry where the call is an Add. That part has all that earlier
-- lines of the list reach.
pub record IsTrueLine (config : ConfigView) (h : History) (thread index reached : ℕ) (call : Call)
    (line : Line) : Type 0 where
  pub before : History
  pub reported : line ≡ record {
    thread = thread;
    index = index;
    said = said_after config before call;
  }
  pub part : BeginsWith h (after_call thread before call)
  pub later : reached ≤ length before

-- The lines of one list, from an index in it on, tell the truth of a history, one line for each
-- call.
abbrev pub AreTrueLines : ConfigView → History → ℕ → ℕ → ℕ → List Call → List Line → Type 0
AreTrueLines config h thread index reached [] [] = Unit {0}
AreTrueLines config h thread index reached [] (line ∷ lines) = ⊥
AreTrueLines config h thread index reached (call ∷ calls) [] = ⊥
AreTrueLines config h thread index reached (call ∷ calls) (line ∷ lines) =
    IsTrueLine config h thread index reached call line ×
    AreTrueLines config h thread (suc index) (reach line.said) calls lines

-- The lines of lists, from the list with this number on, tell the truth of a history.
abbrev pub AreTrueLists : ConfigView → History → ℕ → List (List Call) → List Line → Type 0
AreTrueLists config h thread [] lines = lines ≡ []
AreTrueLists config h thread (calls ∷ lists) lines =
    (own rest : List Line) × (lines ≡ own ++ rest) × AreTrueLines config h thread 0 0 calls own ×
    AreTrueLists config h (suc thread) lists rest

-- The lines are the log of a run whose Adds came in this order: the history has as many entries as
-- the trace has Adds, and each line tells the truth of it.
pub record IsRunOf (trace : Trace) (lines : List Line) (h : History) : Type 0 where
  pub size : length h ≡ adds_of_lists trace.threads
  pub lines_are_true : AreTrueLists trace.config h 0 trace.threads lines

-- The verdict on the log of a run is right.
abbrev pub RunsAreRight : Type 0
RunsAreRight = (trace : Trace) (lines : List Line) (h : History) → IsRunOf trace lines h →
    verdict_of trace lines ≡ Right

-- The verdict on the log of a replay is right.
abbrev pub ReplaysAreRight : Type 0
ReplaysAreRight = (trace : Trace) → verdict_of trace (log_of trace) ≡ Right

-- Lines on which the verdict is right are those of a run.
abbrev pub RightAreRuns : Type 0
RightAreRuns = (trace : Trace) (lines : List Line) → verdict_of trace lines ≡ Right →
    (h : History) × IsRunOf trace lines h
