-- How the command that checks a log against its trace ends: what it did, its exit status, and what
-- it tells.
use Rattle.std.specs.Prelude.{◌≡◌, ◌++◌, ℕ, List, ◌⊎◌, ◌∷◌, []}
use Rattle.tsc_trace.specs.LogText.{line_feed}
use Rattle.tsc_stream.specs.Stream.{KnownReader, KnownWriter}
use Rattle.tsc_check.specs.Checking.{Checked, StopsCheck, fault_text}
use Rattle.tsc_check.specs.declared.verdict.Verdict.{Verdict}
use Rattle.tsc_check.specs.declared.verdict.Verdict.TheVariants.{Right, WrongCall, WrongPlace, WrongAnswer}
use Rattle.tsc_check.specs.declared.stream_checks.CheckFault.{CheckFault}
use Rattle.tsc_check.specs.declared.stream_checks.CheckFault.TheVariants.{Stream, Text, Length}
use Rattle.tsc_commands.specs.Replay.{Reports, status_of}

-- the exit status of a verdict
abbrev pub verdict_status : Verdict → ℕ
verdict_status Right = 0
verdict_status (WrongCall i) = 3
verdict_status (WrongPlace i) = 3
verdict_status (WrongAnswer i) = 3

-- the exit status of a fault
abbrev pub check_fault_status : CheckFault → ℕ
check_fault_status (Stream fault) = status_of fault
check_fault_status (Text number) = 1
check_fault_status Length = 1

-- the line that tells it
abbrev pub check_fault_line : CheckFault → List ℕ
check_fault_line fault = fault_text fault ++ line_feed ∷ []

-- There was a verdict, its line was written, with the exit status of that verdict, and nothing was
-- told.
pub record SucceedsCheck (status : ℕ) (reader reader' log log' : KnownReader)
    (writer writer' errors errors' : KnownWriter) : Type 0 where
  pub verdict : Verdict
  pub checked : Checked verdict reader reader' log log' writer writer'
  pub is_status : status ≡ verdict_status verdict
  pub quiet : errors' ≡ errors

-- The check ended without a verdict, and its fault was told, with the exit status of that fault.
pub record FailsCheck (status : ℕ) (reader reader' log log' : KnownReader)
    (writer writer' errors errors' : KnownWriter) : Type 0 where
  pub fault : CheckFault
  pub stopped : StopsCheck fault reader reader' log log' writer writer'
  pub is_status : status ≡ check_fault_status fault
  pub reported : Reports (check_fault_line fault) errors errors'

-- how the command ends
abbrev pub EndsCheck : ℕ → KnownReader → KnownReader → KnownReader → KnownReader → KnownWriter →
    KnownWriter → KnownWriter → KnownWriter → Type 0
EndsCheck status reader reader' log log' writer writer' errors errors' =
    SucceedsCheck status reader reader' log log' writer writer' errors errors' ⊎
    FailsCheck status reader reader' log log' writer writer' errors errors'
