-- The bytes of a summary at a seat of either kind. (For private contracts.)
use Rattle.std.specs.Prelude.{◌≡◌, ◌⊎◌, Result, IfOk, IfErr}
use Rattle.tsc_shared.specs.Seats.{SeatView}
use Rattle.tsc_shared.specs.Answers.{HasLookedOn}
use Rattle.tsc_striped.specs.Seats.{SeatView as StripedSeat}
use Rattle.tsc_ffi_store.specs.declared.refusal.Refusal.{Refusal}
use Rattle.tsc_ffi_store.specs.declared.refusal.Refusal.TheVariants as refusal
use Rattle.tsc_ffi_store.specs.declared.summary_requests.SeatBytes.{SeatBytes}
use Rattle.tsc_ffi_store.specs.Summaries.{AskedSummary, ReportsSeatSummary, RefusesSummary}
use Rattle.tsc_ffi_store.specs.StripedCalls.{ReportsStripedSummary, LooksOn}

pub record ReportsBytes (asked : AskedSummary) (old new : SeatView) (did : Result SeatBytes Refusal)
    : Type 0 where
  pub reported : IfOk did (λ reported. ReportsSeatSummary old new asked reported.front
      reported.bytes.items)
  pub refused : IfErr did (λ why. RefusesSummary why asked)
  pub looked : (new ≡ old) ⊎ HasLookedOn old new

pub record ReportsStripedBytes (asked : AskedSummary) (old new : StripedSeat)
    (did : Result SeatBytes Refusal) : Type 0 where
  pub reported : IfOk did (λ reported. ReportsStripedSummary old new asked reported.front
      reported.bytes.items)
  pub refused : IfErr did (λ why. RefusesSummary why asked ⊎ (why ≡ refusal.Busy))
  pub looked : LooksOn old new
