-- One span more of a write: from a time on, if there is one so far.
use Rattle.std.specs.Prelude.{◌≡◌, ◌⊎◌, Option, Some, None, Result, Ok, IfOk, IfErr, OnErr}
use Rattle.tsc_time.specs.Time.{Time}
use Rattle.tsc_time.specs.ValueView.{Owner}
use Rattle.tsc_span.specs.Span.{SpanView}
use Rattle.tsc_cache.specs.CacheView.{CacheView, cache_answer}
use Rattle.tsc_shared.specs.Seats.{SeatView}
use Rattle.timestamp_cache.specs.Clear.{IsClearOf, AsksEarliestAt}
use Rattle.timestamp_cache.specs.Earliest.{ReportsEarliest}
use Rattle.timestamp_cache.specs.SeatKinds.{SeatKind, shared_seat}
use Rattle.tsc_striped.specs.Seats.{SeatView as StripedSeat}
use Rattle.tsc_striped_leases.specs.StripedSeats.{striped_seat}
use Rattle.tsc_ffi_store.specs.declared.refusal.Refusal.{Refusal}
use Rattle.tsc_ffi_store.specs.declared.refusal.Refusal.TheVariants as refusal
use Rattle.tsc_ffi_store.specs.StripedCalls.{LooksOn}
use Rattle.tsc_ffi_store.specs.Writes.{AskedWrite, AsksWrite, AsksWriteOf, RefusesWrite}

-- what a cache tells of one span more
abbrev pub ReportsLater : CacheView → SpanView → Owner → Option Time → Option Time → Type 0
ReportsLater cache s by None reported = reported ≡ None
ReportsLater cache s by (Some from) reported =
    ReportsEarliest (λ t. IsClearOf (cache_answer cache s) by t) from reported

-- what a seat of some kind is told of one span more
abbrev pub AsksLaterOf : {S : Type 0} → SeatKind S → S → S → SpanView → Owner → Option Time
    → Option Time → Type 0
AsksLaterOf kind old new s by None reported = (reported ≡ None) × (new ≡ old)
AsksLaterOf kind old new s by (Some from) reported = AsksEarliestAt kind old new s by from reported

-- A seat of a shared cache is always told.
pub record AsksLater (s : SpanView) (by : Owner) (from : Option Time) (old new : SeatView)
    (did : Result (Option Time) Refusal) : Type 0 where
  pub reported : Option Time
  pub is : did ≡ Ok reported
  pub asks : AsksLaterOf shared_seat old new s by from reported

-- A seat in stripes is refused where a lock was held at each try, and is then as it was.
pub record AsksLaterStriped (s : SpanView) (by : Owner) (from : Option Time)
    (old new : StripedSeat) (did : Result (Option Time) Refusal) : Type 0 where
  pub reported : IfOk did (λ reported. AsksLaterOf striped_seat old new s by from reported)
  pub refused : IfErr did (λ why. (why ≡ refusal.Busy) × (new ≡ old))

-- What a seat of a shared cache is told of a write of some spans.
pub record AsksOfWrite (asked : AskedWrite) (old new : SeatView)
    (did : Result (Option Time) Refusal) : Type 0 where
  pub reported : IfOk did (λ reported. AsksWrite old new asked reported)
  pub refused : IfErr did (λ why. RefusesWrite why asked)
  pub unchanged : OnErr did (new ≡ old)

-- What a seat in stripes is told of one.
pub record AsksOfWriteStriped (asked : AskedWrite) (old new : StripedSeat)
    (did : Result (Option Time) Refusal) : Type 0 where
  pub reported : IfOk did (λ reported. AsksWriteOf striped_seat old new asked reported)
  pub refused : IfErr did (λ why. (RefusesWrite why asked × (new ≡ old))
      ⊎ ((why ≡ refusal.Busy) × LooksOn old new))
