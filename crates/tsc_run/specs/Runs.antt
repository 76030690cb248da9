-- What the thread of a list is answered, call after call, and how the runs of lists end.
use Rattle.std.specs.Prelude.{◌≡◌, ◌<◌, ◌≤◌, ℕ, suc, ◌+◌, true, List, [], ◌∷◌, ◌++◌, length, map, All, Vec, Result, Ok, Err, IfOk, IfErr}
use Rattle.std.specs.List.{Contains, sum_by}
use Rattle.std.specs.declared.alloc.Global.{Global}
use Rattle.tsc_shared.specs.Seats.{SharedView, SeatView, FrontView, new_seat, new_seats}
use Rattle.tsc_shared.specs.Answers.{GoesOn, Accepts, AnswersLookup, ReadsFloor}
use Rattle.tsc_cache.specs.declared.added.Added.{Added}
use Rattle.tsc_trace_format.specs.Calls.{Addition, adds, one_mark, several_marks}
use Rattle.tsc_trace_format.specs.Limits.{most_calls}
use Rattle.tsc_trace_format.specs.Traces.{AllFit, EachFits}
use Rattle.tsc_trace_format.specs.declared.trace.Call.{Call}
use Rattle.tsc_trace_format.specs.declared.trace.Call.TheVariants.{Add, Batch, Get, Low}
use Rattle.tsc_trace.specs.declared.log.Line.{Line}
use Rattle.tsc_trace.specs.declared.log.CallAnswer.{CallAnswer}
use Rattle.tsc_trace.specs.declared.log.CallAnswer.TheVariants as said
use Rattle.tsc_check.specs.TrueLog.{adds_of_list, adds_of_lists}
use Rattle.tsc_run.specs.declared.fault.RunFault.{RunFault}
use Rattle.tsc_run.specs.declared.fault.RunFault.TheVariants as fault

-- An addition is accepted at this place, and does this.
abbrev pub AcceptsAs : SeatView → SeatView → Addition → ℕ → Added → Type 0
AcceptsAs old new a place added = (front : FrontView) ×
    Accepts old new a.marks a.now (record { place = place; added = added; front = front })

-- What is said of a call is what the shared cache answered, where the seat was `old` before and is
-- `new` after.
abbrev pub AnswersCall : SeatView → SeatView → Call → CallAnswer → Type 0
AnswersCall old new (Add span value now) (said.Add place added) =
    AcceptsAs old new (one_mark span value now) place added
AnswersCall old new (Batch marks now) (said.Batch place added) =
    AcceptsAs old new (several_marks marks now) place added
AnswersCall old new (Get span) (said.Get front value) =
    AnswersLookup old new span (record { value = value; front = front })
AnswersCall old new Low (said.Low front time) =
    ReadsFloor old new (record { time = time; front = front })
AnswersCall old new call said = ⊥

-- Why a call was not answered, where the seat was `old` before and is `new` after. Either the call
-- is an Add, and the seat has seen as many Adds as the limit allows. Or it is said that memory was
-- refused, and the seat has seen fewer. The seat counts as many as before.
abbrev pub IsRefusedAs : RunFault → Call → SeatView → SeatView → Type 0
IsRefusedAs fault.HistoryFull call old new = (adds call ≡ true) × (new.count ≡ old.count) ×
    (length new.seen ≡ old.cache.limit)
IsRefusedAs fault.NoMemory call old new = (new.count ≡ old.count) ×
    (length new.seen < old.cache.limit)
IsRefusedAs other call old new = ⊥

-- A list can run at a seat of this cache: it is no longer than a list may be, and fits the cache.
pub record CanRun (shared : SharedView) (seat : SeatView) (list : List Call) : Type 0 where
  pub cache : seat.cache ≡ shared
  pub calls : length list ≤ most_calls
  pub fits : EachFits shared.config list

-- Lists can run at these seats of a cache. The seats are new, one for each list. All lists together
-- are no longer than a list may be, and fit the cache.
pub record CanRunAll (shared : SharedView) (at : List SeatView) (lists : List (Vec Call Global)) :
    Type 0 where
  pub seats : at ≡ new_seats shared 0 (length lists)
  pub calls : sum_by length (map (λ calls. calls.items) lists) ≤ most_calls
  pub fits : AllFit shared.config (map (λ calls. calls.items) lists)

-- A list's run: its calls were made at one seat, one after another, and each line says what was
-- answered. The lines have the seat's number, and are numbered from a place in the list on.
abbrev pub Runs : SeatView → ℕ → List Call → List Line → SeatView → Type 0
Runs old index [] [] new = new ≡ old
Runs old index (call ∷ calls) (line ∷ lines) new =
    (line.thread ≡ old.number) × (line.index ≡ index) × (mid : SeatView) × GoesOn old mid ×
    AnswersCall old mid call line.said × Runs mid (suc index) calls lines new
Runs old index calls lines new = ⊥

-- The runs of lists, from the list with this number on, each at a new seat of the cache: their
-- lines in a row, and how they leave their seats.
abbrev pub RunsAll : SharedView → ℕ → List (List Call) → List Line → List SeatView → Type 0
RunsAll cache thread [] lines [] = lines ≡ []
RunsAll cache thread (calls ∷ lists) lines (seat ∷ seats) =
    (first : List Line) × (others : List Line) × (lines ≡ first ++ others) ×
    Runs (new_seat cache thread) 0 calls first seat ×
    RunsAll cache (suc thread) lists others seats
RunsAll cache thread lists lines seats = ⊥

-- what a run comes to: its lines, or why it ended early
abbrev pub RunResult : Type 0
RunResult = Result (Vec Line Global) RunFault

-- Why a list's run ended early, where its seat was as the first before and is as the second then:
-- one of its Adds found the history full, which the seat has seen; or it is said that memory was
-- refused.
abbrev pub StopsList : RunFault → SeatView → List Call → SeatView → Type 0
StopsList fault.HistoryFull old calls new = (new.count < old.count + adds_of_list calls) ×
    (length new.seen ≡ old.cache.limit)
StopsList fault.NoMemory old calls new = Unit {0}
StopsList other old calls new = ⊥

-- How a list's run ends: its seat stays at its cache and gets at most the list's Adds, whatever the
-- run comes to.
pub record EndsList (old : SeatView) (calls : List Call) (reported : RunResult) (new : SeatView) :
    Type 0 where
  pub cache : new.cache ≡ old.cache
  pub few : new.count ≤ old.count + adds_of_list calls
  pub ran : IfOk reported (λ lines. Runs old 0 calls lines.items new)
  pub stopped : IfErr reported (λ why. StopsList why old calls new)

-- how many Adds some seats count together
abbrev pub counted : List SeatView → ℕ
counted seats = sum_by (λ (seat : SeatView). seat.count) seats

-- One of some seats has seen as many Adds as the limit allows, and the seats together count fewer
-- than the lists have.
pub record IsFullEarly (cache : SharedView) (lists : List (List Call)) (seats : List SeatView) :
    Type 0 where
  pub seat : SeatView
  pub there : Contains seats seat
  pub full : length seat.seen ≡ cache.limit
  pub fewer : counted seats < adds_of_lists lists

-- why a run of lists ended early
abbrev pub StopsLists : RunFault → SharedView → List (List Call) → List SeatView → Type 0
StopsLists fault.HistoryFull cache lists seats = IsFullEarly cache lists seats
StopsLists fault.NoMemory cache lists seats = Unit {0}
StopsLists other cache lists seats = ⊥

-- How the runs of lists end, each at a new seat of the cache: all seats come back, with at most the
-- lists' Adds, whatever the runs come to.
pub record EndsLists (cache : SharedView) (lists : List (List Call)) (reported : RunResult)
    (seats : List SeatView) : Type 0 where
  pub of_cache : All (λ (seat : SeatView). seat.cache ≡ cache) seats
  pub as_many : length seats ≡ length lists
  pub few : counted seats ≤ adds_of_lists lists
  pub ran : IfOk reported (λ lines. RunsAll cache 0 lists lines.items seats)
  pub stopped : IfErr reported (λ why. StopsLists why cache lists seats)

-- What some runs and one more come to together: all lines in a row, or why one of them ended early,
-- or want of memory.
abbrev pub Joins : RunResult → RunResult → RunResult → Type 0
Joins (Ok lines) (Ok more) (Ok all) = all.items ≡ lines.items ++ more.items
Joins (Ok lines) (Ok more) (Err why) = why ≡ fault.NoMemory
Joins (Ok lines) (Err stopped) all = all ≡ Err stopped
Joins (Err stopped) more all = all ≡ Err stopped
