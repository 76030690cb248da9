-- What a seat answers by its handle: at a shared cache, and in stripes. (For private contracts.)
use Rattle.std.specs.Prelude.{◌≡◌, ◌⊎◌, ℕ, ◌∷◌, [], List, Bool, length, Some, Result, Ok, Err, IfOk, IfErr, OnErr}
use Rattle.tsc_time.specs.Time.{Time}
use Rattle.tsc_time.specs.ValueView.{ValueView}
use Rattle.tsc_span.specs.Span.{SpanView}
use Rattle.tsc_page_model.specs.Page.{Mark}
use Rattle.tsc_stripe_table.specs.Stripes.{stripe_count}
use Rattle.tsc_shared.specs.Seats.{SeatView as SharedSeat}
use Rattle.tsc_shared.specs.declared.answers.Answer.{Answer}
use Rattle.tsc_shared.specs.declared.answers.LowWater.{LowWater}
use Rattle.tsc_shared.specs.declared.answers.Receipt.{Receipt}
use Rattle.tsc_shared.specs.declared.answers.TryAddFault.{TryAddFault}
use Rattle.tsc_shared.specs.Answers as shared
use Rattle.tsc_striped.specs.Seats.{SeatView as StripedSeat}
use Rattle.tsc_striped.specs.declared.answers.Receipt.{Receipt as StripedReceipt}
use Rattle.tsc_striped.specs.declared.answers.TryAddFault.{TryAddFault as StripedFault}
use Rattle.tsc_striped.specs.Answers as striped
use Rattle.tsc_striped_leases.specs.Leases.{SummarizesInStripes}
use Rattle.tsc_striped_leases.specs.Merging.{merged}
use Rattle.timestamp_cache.specs.HandOver.{Summary}
use Rattle.timestamp_cache.specs.SeatSummaries.{SummarizesAt}
use Rattle.timestamp_cache.specs.declared.hand_over.SeatSummary.{SeatSummary}
use Rattle.tsc_ffi_store.specs.declared.seats.placed.Placed.{Placed}
use Rattle.tsc_ffi_store.specs.declared.seats.placed.Counted.{Counted}
use Rattle.tsc_ffi_store.specs.declared.refusal.Refusal.{Refusal}
use Rattle.tsc_ffi_store.specs.declared.refusal.Refusal.TheVariants as refusal
use Rattle.tsc_ffi_store.specs.SeatCalls.{IsCodeOf, RefusesTried, IsSpared}
use Rattle.tsc_ffi_store.specs.StripedCalls.{IsStripedCode, ReadsFloors, ReadsAllFigures, LooksOn}
use Rattle.tsc_ffi_store.specs.StripedCalls.{RefusesInStripes}

-- one mark by itself
abbrev pub one_mark : SpanView → ValueView → List Mark
one_mark span value = record { span = span; value = value } ∷ []

-- A lookup at a shared cache is never refused.
pub record LooksShared (span : SpanView) (old new : SharedSeat) (did : Result Answer Refusal) : Type
    0 where
  pub answer : Answer
  pub is : did ≡ Ok answer
  pub looked : shared.AnswersLookup old new span answer
  pub above : shared.IsAbove new span answer.value
  pub whole : shared.ReportsNoPart new span answer.value

-- A lookup in stripes is refused where a lock was held at each try.
pub record LooksStriped (span : SpanView) (old new : StripedSeat) (did : Result Answer Refusal) :
    Type 0 where
  pub looked : IfOk did (λ answer. striped.AnswersLookup old new span answer.value
      × (answer.front ≡ new.count))
  pub refused : IfErr did (λ why. (why ≡ refusal.Busy) × (new ≡ old))

pub record ReportsFloor (old new : SharedSeat) (did : Result LowWater Refusal) : Type 0 where
  pub answer : LowWater
  pub is : did ≡ Ok answer
  pub reads : shared.ReadsFloor old new answer

-- The earliest floor of all stripes is told.
pub record ReportsFloorStriped (old new : StripedSeat) (did : Result LowWater Refusal) : Type
    0 where
  pub reads : IfOk did (λ answer. ReadsFloors old new (stripe_count old.cache.terms.bounds) answer.time
      × (answer.front ≡ new.count))
  pub refused : IfErr did (λ why. why ≡ refusal.Busy)
  pub goes_on : striped.GoesOn old new
  pub count : new.count ≡ old.count

pub record CountsShared (old new : SharedSeat) (did : Result Counted Refusal) : Type 0 where
  pub answer : Counted
  pub is : did ≡ Ok answer
  pub reads : shared.ReadsFigures old new answer.figures

-- The figures of all stripes together, which were read one after another.
pub record AddsUpStripes (old new : StripedSeat) (counted : Counted) : Type 0 where
  pub read : StripedSeat
  pub reads : ReadsAllFigures old read (stripe_count old.cache.terms.bounds) counted.figures.figures
  pub on : LooksOn read new
  pub front : counted.figures.front ≡ new.count

pub record CountsStriped (old new : StripedSeat) (did : Result Counted Refusal) : Type 0 where
  pub counted : IfOk did (λ counted. AddsUpStripes old new counted)
  pub refused : IfErr did (λ why. why ≡ refusal.Busy)
  pub goes_on : striped.GoesOn old new
  pub count : new.count ≡ old.count

pub record SumsUpShared (span : SpanView) (most : ℕ) (old new : SharedSeat)
    (did : Result SeatSummary Refusal) : Type 0 where
  pub reported : IfOk did (λ reported. SummarizesAt old new span most reported)
  pub refused : IfErr did (λ why. why ≡ refusal.NoMemory)
  pub looked : shared.HasLookedOn old new

-- Summaries of all stripes that a span touches, of one moment, are told as one.
pub record MergesStripes (span : SpanView) (most : ℕ) (old new : StripedSeat)
    (reported : SeatSummary) : Type 0 where
  pub parts : List Summary
  pub summarizes : SummarizesInStripes old new span most parts
  pub merges : reported.summary ≡ merged span parts
  pub front : reported.front ≡ new.count

pub record SumsUpStriped (span : SpanView) (most : ℕ) (old new : StripedSeat)
    (did : Result SeatSummary Refusal) : Type 0 where
  pub reported : IfOk did (λ reported. MergesStripes span most old new reported)
  pub refused : IfErr did (λ why. (why ≡ refusal.Busy) ⊎ (why ≡ refusal.NoMemory))
  pub looked : LooksOn old new

-- What a shared cache says of an Add is told: its place among all Adds, and what it did.
abbrev pub IsPlaced : Result Receipt TryAddFault → Result Placed Refusal → Type 0
IsPlaced (Ok receipt) (Ok placed) =
    (placed.place ≡ receipt.place) × (placed.added ≡ receipt.added)
IsPlaced (Ok receipt) (Err why) = ⊥
IsPlaced (Err fault) (Ok placed) = ⊥
IsPlaced (Err fault) (Err why) = IsCodeOf fault why

pub record AddsShared (marks : List Mark) (now : Time) (fit : Bool) (tries : ℕ)
    (old new : SharedSeat) (did : Result Placed Refusal) : Type 0 where
  pub reported : Result Receipt TryAddFault
  pub answers : shared.AnswersTriedAdd old new marks now fit (Some tries) reported
  pub is : IsPlaced reported did

-- What a cache in stripes says of an Add is told: its place among the seat's own, and what it did.
abbrev pub IsPlacedInStripes : Result StripedReceipt StripedFault → Result Placed Refusal → Type 0
IsPlacedInStripes (Ok receipt) (Ok placed) =
    (placed.place ≡ receipt.number) × (placed.added ≡ receipt.added)
IsPlacedInStripes (Ok receipt) (Err why) = ⊥
IsPlacedInStripes (Err fault) (Ok placed) = ⊥
IsPlacedInStripes (Err fault) (Err why) = IsStripedCode fault why

pub record AddsStriped (marks : List Mark) (now : Time) (tries : ℕ) (old new : StripedSeat)
    (did : Result Placed Refusal) : Type 0 where
  pub reported : Result StripedReceipt StripedFault
  pub answers : striped.AnswersTriedAdd old new marks now (Some tries) reported
  pub is : IsPlacedInStripes reported did

-- There is no memory for an Add: it is refused as it would be that was tried.
pub record LacksShared (old new : SharedSeat) (why : Refusal) : Type 0 where
  pub tried : RefusesTried why old new
  pub spared : IsSpared old new

pub record LacksStriped (old new : StripedSeat) (why : Refusal) : Type 0 where
  pub refuses : RefusesInStripes why old
  pub same : new ≡ old
