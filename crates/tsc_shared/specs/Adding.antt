-- What an Add that fits answers, and when it is given up. (For private contracts.)
use Rattle.std.specs.Prelude.{◌≡◌, ℕ, List, Bool, Option, Some, Result, Ok, Err, is_ok}
use Rattle.std.specs.Prelude.{IfOk, OnOk, IfErr, OnErr, IsErrOf}
use Rattle.tsc_time.specs.Time.{Time}
use Rattle.tsc_page_model.specs.Page.{Mark}
use Rattle.tsc_cache.specs.ConfigView.{ConfigView, fits}
use Rattle.tsc_cache.specs.Batch.{all_fit}
use Rattle.tsc_shared.specs.declared.adds.MarksRef.{MarksRef}
use Rattle.tsc_shared.specs.declared.adds.MarksRef.TheVariants.{One, Many}
use Rattle.tsc_left_right.specs.Waiting.{HasEnd}
use Rattle.tsc_left_right.specs.declared.preparing.NotApplied.{NotApplied}
use Rattle.tsc_left_right.specs.declared.preparing.NotApplied.TheVariants as why
use Rattle.tsc_shared.specs.declared.answers.Receipt.{Receipt}
use Rattle.tsc_shared.specs.declared.answers.AddFault.{AddFault}
use Rattle.tsc_shared.specs.declared.answers.AddFault.TheVariants as fault
use Rattle.tsc_shared.specs.declared.answers.TryAddFault.{TryAddFault}
use Rattle.tsc_shared.specs.declared.answers.TryAddFault.TheVariants.{DeskBusy, SeatInside, Refused}
use Rattle.tsc_shared.specs.Seats.{SeatView, FrontView}
use Rattle.tsc_shared.specs.Answers.{Accepts, GoesOn, Refuses, TryRefusedFor}

-- whether the span of each mark that a caller asks to add fits the largest page
abbrev pub fits_asked : ConfigView → MarksRef → Bool
fits_asked config (One span value) = fits config span.now
fits_asked config (Many marks) = all_fit config marks.now

-- An Add is given up only where the tries have an end.
abbrev pub GivesUp : Option ℕ → TryAddFault → Type 0
GivesUp tries DeskBusy = HasEnd tries
GivesUp tries SeatInside = HasEnd tries
GivesUp tries (Refused fault) = Unit {0}

-- What an Add that fits answers after some tries, and whether it reaches the gate, which has heard
-- it then. It is accepted, or refused for one of the reasons, but not as too large. Without a try
-- it reports that the lock is busy.
pub record AnswersFitting (ms : List Mark) (now : Time) (tries : Option ℕ) (old new : SeatView)
    (reported : Bool) (HasHeard : Type 0) (result : Result Receipt TryAddFault) : Type 0 where
  pub reported_is : reported ≡ is_ok result
  pub gate : OnOk result HasHeard
  pub accepted : IfOk result (λ receipt. Accepts old new ms now receipt)
  pub seat : GoesOn old new
  pub refused : OnErr result (Refuses old new)
  pub why : IfErr result (λ fault. TryRefusedFor old new fault)
  pub fits : IsErrOf result (Refused fault.TooLarge) → ⊥
  pub ended : IfErr result (λ fault. GivesUp tries fault)
  pub no_tries : tries ≡ Some 0 → IsErrOf result DeskBusy

-- What an Add that waits answers is what it would answer if it could give up, since it never did.
abbrev pub IsWaited : Result Receipt TryAddFault → Result Receipt AddFault → Type 0
IsWaited (Ok receipt) result = result ≡ Ok receipt
IsWaited (Err DeskBusy) result = ⊥
IsWaited (Err SeatInside) result = ⊥
IsWaited (Err (Refused fault)) result = result ≡ Err fault

-- what a seat that saw such a history is told then
abbrev pub fault_for : NotApplied → FrontView → TryAddFault
fault_for why.HistoryFull front = Refused (fault.HistoryFull front)
fault_for why.NoMemory front = Refused fault.NoMemory
fault_for why.SeatInside front = SeatInside
