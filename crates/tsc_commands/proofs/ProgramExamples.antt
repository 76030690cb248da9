-- What the program comes to where it is known which bytes each file has.
use Rattle.std.proofs.Common.{◌≡◌, ◌==◌, ◌++◌, ◌⊎◌, ◌∙◌, ℕ, List, [], ◌∷◌, Option, Result, Ok, Err, Some, None, IsNone, codes, false, true≢false, inl, inr, sym, ap, subst, refl}
use Rattle.tsc_trace.specs.LogText.{line_feed}
use Rattle.tsc_trace.specs.Replay.{StopsReplay}
use Rattle.tsc_trace.specs.declared.stream_replays.ReplayFault.TheVariants.{Read}
use Rattle.tsc_stream.proofs.Reliable.{fresh_is_reliable, reliable_reads_do_not_fail}
use Rattle.tsc_stream.specs.Stream.{KnownReader, KnownWriter, no_trouble}
use Rattle.tsc_commands.specs.Check.{EndsCheck}
use Rattle.tsc_commands.specs.FileSystem.{KnownFile, Opening, fresh_file}
use Rattle.tsc_commands.specs.Replay.{EndsReplay}
use Rattle.tsc_commands.specs.Run.{EndsRun}
use Rattle.tsc_commands.specs.Program.{AskFor, DoesAsked, Ends, EndsCheckOf, GoesOver, GoesOverFile, GoesOverOpening, OnlyReports, RunsProgram}
use Rattle.tsc_commands.specs.Words.{Request, Word, check, refusal_text, replay, request_in, run}
use Rattle.tsc_commands.specs.declared.file_system.OpenFault.TheVariants.{Unopened}
use Rattle.tsc_commands.specs.declared.cli.WordsFault.{WordsFault}
use Rattle.tsc_commands.specs.declared.cli.WordsFault.TheVariants.{Wrong, NoMemory}
use Rattle.tsc_commands.proofs.WordExamples.{a_named_file_is_replayed, a_named_file_is_run, a_named_log_is_checked, two_files_ask_for_nothing}

-- a file of these bytes in memory, of which no read meets any trouble
abbrev in_memory : List ℕ → KnownFile
in_memory bytes = record { bytes = Some bytes; troubles = no_trouble }

-- each file is there, with these bytes
abbrev at_hand : (Word → List ℕ) → Word → Opening → Type 0
at_hand bytes name opening = opening ≡ Ok (in_memory (bytes name))

module _ (refused : Type 0) (bytes : Word → List ℕ) (words : List Word) (status : ℕ)
    (w w' e e' : KnownWriter) where
  -- Only this is told, with this exit status.
  abbrev Reports : WordsFault → ℕ → Type 0
  Reports fault wanted = OnlyReports (refusal_text fault ++ line_feed ∷ []) wanted status w w' e e'

  abbrev Runs : Type 0
  Runs = RunsProgram (Ok words) refused (at_hand bytes) status w w' e e'

  over_its_file : (command : Ends) (file : Word) →
      GoesOver command (at_hand bytes file) status w w' e e' →
      GoesOverFile command (in_memory (bytes file)) status w w' e e'
  over_its_file command file went =
      subst (λ (o : Opening). GoesOverOpening command o status w w' e e') went.opened went.ends

  -- Where something is asked for, it is done, unless memory is wanting for the words.
  what_is_asked_is_done : (request : Request) → request_in words ≡ Some request → Runs →
      DoesAsked (Ok request) refused (at_hand bytes) status w w' e e' ⊎ Reports NoMemory 5
  what_is_asked_is_done request is ran = go ran.asked ran.is_asked ran.ends
    where
      request_of : Option Request → Request
      request_of (Some other) = other
      request_of None = request

      go : (asked : Result Request WordsFault) → AskFor (Ok words) asked →
          DoesAsked asked refused (at_hand bytes) status w w' e e' →
          DoesAsked (Ok request) refused (at_hand bytes) status w w' e e' ⊎ Reports NoMemory 5
      go (Ok other) same ends = inl
          (subst (λ (r : Request). DoesAsked (Ok r) refused (at_hand bytes) status w w' e e')
          (ap request_of (sym same ∙ is)) ends)
      go (Err Wrong) none ends = absurd (true≢false (subst IsNone is none))
      go (Err NoMemory) any ends = inr ends

  -- Where a file is asked for, the command goes over its bytes.
  pub asked_file_is_replayed : (file : Word) → request_in words ≡ Some (replay file) → Runs →
      GoesOverFile EndsReplay (in_memory (bytes file)) status w w' e e' ⊎ Reports NoMemory 5
  asked_file_is_replayed file is ran = elim (what_is_asked_is_done (replay file) is ran) [
    | inl ends ↦ inl (over_its_file EndsReplay file ends)
    | inr reported ↦ inr reported
  ]

  pub asked_file_is_run : (file : Word) → request_in words ≡ Some (run file) → Runs →
      GoesOverFile (EndsRun refused) (in_memory (bytes file)) status w w' e e' ⊎ Reports NoMemory 5
  asked_file_is_run file is ran = elim (what_is_asked_is_done (run file) is ran) [
    | inl ends ↦ inl (over_its_file (EndsRun refused) file ends)
    | inr reported ↦ inr reported
  ]

  -- A check went over the bytes of a trace and over those of a log.
  pub record ChecksBytes (trace log : Word) : Type 0 where
    pub trace' : KnownReader
    pub log' : KnownReader
    pub ends : EndsCheck status (fresh_file (in_memory (bytes trace))) trace'
        (fresh_file (in_memory (bytes log))) log' w w' e e'

  pub asked_log_is_checked : (trace log : Word) → request_in words ≡ Some (check trace log) → Runs →
      ChecksBytes trace log ⊎ Reports NoMemory 5
  asked_log_is_checked trace log is ran = elim (what_is_asked_is_done (check trace log) is ran) [
    | inl ends ↦ inl (over_both (over_its_file (EndsCheckOf (at_hand bytes log)) trace ends))
    | inr reported ↦ inr reported
  ]
    where
      over_both : GoesOverFile (EndsCheckOf (at_hand bytes log)) (in_memory (bytes trace)) status w
          w' e e' → ChecksBytes trace log
      over_both over =
          let over_log = over_its_file
          (λ ended read read'. EndsCheck ended (fresh_file (in_memory (bytes trace)))
          over.reader' read read') log over.ends in
          record { trace' = over.reader'; log' = over_log.reader'; ends = over_log.ends }

  -- Where nothing is asked for, the usage is told, unless memory is wanting for the words.
  pub nothing_asked_reports_the_usage : request_in words ≡ None → Runs →
      Reports Wrong 2 ⊎ Reports NoMemory 5
  nothing_asked_reports_the_usage is ran = go ran.asked ran.is_asked ran.ends
    where
      go : (asked : Result Request WordsFault) → AskFor (Ok words) asked →
          DoesAsked asked refused (at_hand bytes) status w w' e e'
          → Reports Wrong 2 ⊎ Reports NoMemory 5
      go (Ok request) same ends = absurd
          (true≢false (subst IsNone same (subst IsNone (sym is) refl)))
      go (Err Wrong) none ends = inl ends
      go (Err NoMemory) any ends = inr ends

-- ---- a trace that is not opened

-- It is told, whatever opening the log may come to.
pub an_unopened_trace_is_reported : (refused : Type 0) (opens : Word → Opening → Type 0)
    (trace log : Word) (status : ℕ) (w w' e e' : KnownWriter)
    → ((opening : Opening) → opens trace opening → opening ≡ Err Unopened) →
    DoesAsked (Ok (check trace log)) refused opens status w w' e e'
    → OnlyReports (codes "read failed" ++ line_feed ∷ []) 4 status w w' e e'
an_unopened_trace_is_reported refused opens trace log status w w' e e' unopened went =
    subst (λ (o : Opening). GoesOverOpening (EndsCheckOf (opens log)) o status w w' e e')
    (unopened went.opening went.opened) went.ends

-- ---- four calls

pub the_named_file_is_replayed : (refused : Type 0) (bytes : Word → List ℕ) (name : Word)
    (first : ℕ) (rest : List ℕ) (status : ℕ) (w w' e e' : KnownWriter) → (first == 45) ≡ false
    → RunsProgram (Ok (name ∷ codes "replay" ∷ (first ∷ rest) ∷ [])) refused (at_hand bytes) status
    w w' e e'
    → GoesOverFile EndsReplay (in_memory (bytes (first ∷ rest))) status w w' e e' ⊎
    OnlyReports (codes "out of memory" ++ line_feed ∷ []) 5 status w w' e e'
the_named_file_is_replayed refused bytes name first rest status w w' e e' plain ran =
    asked_file_is_replayed refused bytes _ status w w' e e' (first ∷ rest)
    (a_named_file_is_replayed name first rest plain) ran

pub the_named_file_is_run : (refused : Type 0) (bytes : Word → List ℕ) (name : Word)
    (first : ℕ) (rest : List ℕ) (status : ℕ) (w w' e e' : KnownWriter) → (first == 45) ≡ false
    → RunsProgram (Ok (name ∷ codes "run" ∷ (first ∷ rest) ∷ [])) refused (at_hand bytes) status
    w w' e e'
    → GoesOverFile (EndsRun refused) (in_memory (bytes (first ∷ rest))) status w w' e e' ⊎
    OnlyReports (codes "out of memory" ++ line_feed ∷ []) 5 status w w' e e'
the_named_file_is_run refused bytes name first rest status w w' e e' plain ran =
    asked_file_is_run refused bytes _ status w w' e e' (first ∷ rest)
    (a_named_file_is_run name first rest plain) ran

pub the_named_log_is_checked : (refused : Type 0) (bytes : Word → List ℕ) (name : Word)
    (first second : ℕ) (rest more : List ℕ) (status : ℕ) (w w' e e' : KnownWriter)
    → (first == 45) ≡ false → (second == 45) ≡ false
    → RunsProgram (Ok (name ∷ codes "check" ∷ (first ∷ rest) ∷ (second ∷ more) ∷ [])) refused
    (at_hand bytes) status w w' e e'
    → ChecksBytes refused bytes (name ∷ codes "check" ∷ (first ∷ rest) ∷ (second ∷ more) ∷ [])
    status w w' e e' (first ∷ rest) (second ∷ more)
    ⊎ OnlyReports (codes "out of memory" ++ line_feed ∷ []) 5 status w w' e e'
the_named_log_is_checked refused bytes name first second rest more status w w' e e' plain also ran =
    asked_log_is_checked refused bytes _ status w w' e e' (first ∷ rest) (second ∷ more)
    (a_named_log_is_checked name first second rest more plain also) ran

pub a_word_too_many_reports_the_usage : (refused : Type 0) (bytes : Word → List ℕ) (name : Word)
    (first second : ℕ) (rest more : List ℕ) (status : ℕ) (w w' e e' : KnownWriter)
    → (first == 45) ≡ false → (second == 45) ≡ false
    → RunsProgram (Ok (name ∷ codes "replay" ∷ (first ∷ rest) ∷ (second ∷ more) ∷ [])) refused
    (at_hand bytes) status w w' e e'
    → OnlyReports (codes "usage: tscache replay FILE, run FILE or check FILE LOG" ++ line_feed ∷ [])
    2 status w w' e e'
    ⊎ OnlyReports (codes "out of memory" ++ line_feed ∷ []) 5 status w w' e e'
a_word_too_many_reports_the_usage refused bytes name first second rest more status w w' e e' plain
    also ran =
    nothing_asked_reports_the_usage refused bytes _ status w w' e e'
    (two_files_ask_for_nothing name first second rest more plain also) ran

-- ---- bytes in memory

-- They are read, or there are too many of them, or memory is wanting: no read fails.
pub bytes_in_memory_are_read : (bytes : List ℕ) (reader' : KnownReader) (w w' : KnownWriter) →
    StopsReplay Read (fresh_file (in_memory bytes)) reader' w w' → ⊥
bytes_in_memory_are_read bytes reader' w w' stopped =
    reliable_reads_do_not_fail _ reader' (fresh_is_reliable (Some bytes)) stopped.read
