-- Kinds of seats: what the calls that only look need to know of a seat.
use Rattle.std.specs.Prelude.{◌≡◌, ℕ}
use Rattle.tsc_time.specs.ValueView.{ValueView}
use Rattle.tsc_span.specs.Span.{SpanView}
use Rattle.tsc_cache.specs.State.{look}
use Rattle.tsc_cache.specs.History.{History, state_of}
use Rattle.tsc_shared.specs.Seats.{SeatView}
use Rattle.tsc_shared.specs.Answers as shared

-- A kind of seat. `seen` is the history that a seat has seen, and `count` how many Adds of its own
-- were accepted. `answer` is what the seat's cache answers to a span after a history. A seat goes
-- on if it stays who it is, is as seats always are, and has seen all that it had seen.
pub record SeatKind (S : Type 0) : Type 1 where
  pub seen : S → History
  pub count : S → ℕ
  pub answer : S → History → SpanView → ValueView
  pub GoesOn : S → S → Type 0

-- A seat has looked: it goes on, and counts as many Adds of its own as before.
pub record HasLookedOn {S : Type 0} (kind : SeatKind S) (old new : S) : Type 0 where
  pub goes_on : kind.GoesOn old new
  pub count : kind.count new ≡ kind.count old

-- A lookup answers after all that the seat has seen then.
pub record LooksUp {S : Type 0} (kind : SeatKind S) (old new : S) (span : SpanView)
    (value : ValueView) : Type 0 where
  pub goes_on : kind.GoesOn old new
  pub count : kind.count new ≡ kind.count old
  pub value_is : value ≡ kind.answer old (kind.seen new) span

-- the seats of a shared cache
abbrev pub shared_seat : SeatKind SeatView
shared_seat = record {
  seen = λ seat. seat.seen;
  count = λ seat. seat.count;
  answer = λ seat h span. look (state_of seat.cache.config h) span;
  GoesOn = shared.GoesOn;
}
