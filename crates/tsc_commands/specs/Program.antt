-- What the program does: what its words ask for, what that comes to, its exit status, and what it
-- tells.
use Rattle.std.specs.Prelude.{◌≡◌, ◌++◌, ℕ, List, [], ◌∷◌, map, Result, Ok, Err, Vec, string_bytes}
use Rattle.std.specs.declared.string.String.{String}
use Rattle.std.specs.declared.alloc.Global.{Global}
use Rattle.tsc_trace.specs.LogText.{line_feed}
use Rattle.tsc_stream.specs.Stream.{KnownReader, KnownWriter}
use Rattle.tsc_trace.specs.declared.stream_replays.ReplayFault.{ReplayFault}
use Rattle.tsc_trace.specs.declared.stream_replays.ReplayFault.TheVariants.{Read, NoMemory}
use Rattle.tsc_commands.specs.Check.{EndsCheck}
use Rattle.tsc_commands.specs.FileSystem.{KnownFile, Opening, fresh_file}
use Rattle.tsc_commands.specs.Replay.{EndsReplay, Reports, fault_line, status_of}
use Rattle.tsc_commands.specs.Run.{EndsRun}
use Rattle.tsc_commands.specs.Words.{Answers, Request, Word, check, refusal_status, refusal_text, replay, request_in, run}
use Rattle.tsc_commands.specs.declared.file_system.OpenFault.{OpenFault}
use Rattle.tsc_commands.specs.declared.file_system.OpenFault.TheVariants as open_fault
use Rattle.tsc_commands.specs.declared.cli.WordsFault.{WordsFault}

-- the program's words, or why they are not to be had
abbrev pub texts_of : Result (Vec (String Global) Global) WordsFault → Result (List Word) WordsFault
texts_of (Ok words) = Ok (map string_bytes words.items)
texts_of (Err fault) = Err fault

-- what the words ask for, where they are to be had
abbrev pub AskFor : Result (List Word) WordsFault → Result Request WordsFault → Type 0
AskFor (Ok words) asked = Answers (λ request. request) (request_in words) asked
AskFor (Err fault) asked = asked ≡ Err fault

-- Nothing was written, and one line was told, with this exit status.
pub record OnlyReports (line : List ℕ) (wanted status : ℕ)
    (writer writer' errors errors' : KnownWriter) : Type 0 where
  pub is_status : status ≡ wanted
  pub reported : Reports line errors errors'
  pub silent : writer' ≡ writer

-- how a command ends whose file was not opened
abbrev pub fault_of_open : OpenFault → ReplayFault
fault_of_open open_fault.Unopened = Read
fault_of_open open_fault.NoMemory = NoMemory

-- how a command ends, by its exit status and what is known before and after of its reader, its
-- writer and its stream for faults
abbrev pub Ends : Type 1
Ends = ℕ → KnownReader → KnownReader → KnownWriter → KnownWriter → KnownWriter →
    KnownWriter → Type 0

-- A command went over a file of which this is known, from its first byte on.
pub record GoesOverFile (command : Ends) (file : KnownFile) (status : ℕ)
    (writer writer' errors errors' : KnownWriter) : Type 0 where
  pub reader' : KnownReader
  pub ends : command status (fresh_file file) reader' writer writer' errors errors'

-- how a command over a file ends, by what opening the file came to
abbrev pub GoesOverOpening : Ends → Opening → ℕ → KnownWriter → KnownWriter → KnownWriter →
    KnownWriter → Type 0
GoesOverOpening command (Ok file) status writer writer' errors errors' =
    GoesOverFile command file status writer writer' errors errors'
GoesOverOpening command (Err fault) status writer writer' errors errors' =
    OnlyReports (fault_line (fault_of_open fault)) (status_of (fault_of_open fault)) status writer
    writer' errors errors'

-- A file was opened, or was not, and a command ended by that. What opening it may come to is for
-- the file system.
pub record GoesOver (command : Ends) (may_be : Opening → Type 0) (status : ℕ)
    (writer writer' errors errors' : KnownWriter) : Type 0 where
  pub opening : Opening
  pub opened : may_be opening
  pub ends : GoesOverOpening command opening status writer writer' errors errors'

-- how a check ends whose trace was opened, by what opening its log may come to
abbrev pub EndsCheckOf : (Opening → Type 0) → Ends
EndsCheckOf may_be status trace trace' writer writer' errors errors' =
    GoesOver (λ ended log log'. EndsCheck ended trace trace' log log') may_be status writer writer'
    errors errors'

-- How the program ends, by what it is asked to do: to replay or to run the file of a name, to check
-- the log in a file against the trace in another, which is opened first, or nothing. `refused` says
-- that the start of a thread was refused.
abbrev pub DoesAsked : Result Request WordsFault → Type 0 → (Word → Opening → Type 0) → ℕ →
    KnownWriter → KnownWriter → KnownWriter → KnownWriter → Type 0
DoesAsked (Ok (replay file)) refused opens status writer writer' errors errors' =
    GoesOver EndsReplay (opens file) status writer writer' errors errors'
DoesAsked (Ok (run file)) refused opens status writer writer' errors errors' =
    GoesOver (EndsRun refused) (opens file) status writer writer' errors errors'
DoesAsked (Ok (check trace log)) refused opens status writer writer' errors errors' =
    GoesOver (EndsCheckOf (opens log)) (opens trace) status writer writer' errors errors'
DoesAsked (Err fault) refused opens status writer writer' errors errors' =
    OnlyReports (refusal_text fault ++ line_feed ∷ []) (refusal_status fault) status writer writer'
    errors errors'

-- The program did what its words ask for, with what opening the file of a name may come to, and
-- whether the start of a thread was refused.
pub record RunsProgram (words : Result (List Word) WordsFault) (refused : Type 0)
    (opens : Word → Opening → Type 0) (status : ℕ) (writer writer' errors errors' : KnownWriter)
    : Type 0 where
  pub asked : Result Request WordsFault
  pub is_asked : AskFor words asked
  pub ends : DoesAsked asked refused opens status writer writer' errors errors'
