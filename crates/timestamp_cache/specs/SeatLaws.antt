-- What holds of each kind of seat.
use Rattle.std.specs.Prelude.{◌≡◌, refl}
use Rattle.std.proofs.Common.{◌∙◌}
use Rattle.tsc_time.specs.Time.{Time}
use Rattle.tsc_time.specs.ValueView.{Owner}
use Rattle.tsc_span.specs.Span.{SpanView}
use Rattle.tsc_cache.specs.History.{BeginsWith}
use Rattle.tsc_cache.proofs.Beginnings.{begins_itself, begins_on}
use Rattle.tsc_cache.proofs.Histories.{no_write_below_a_read}
use Rattle.tsc_shared.specs.Seats.{SharedView, SeatView, IsSeat}
use Rattle.tsc_shared.specs.Answers.{GoesOn}
use Rattle.timestamp_cache.specs.Clear.{IsClearOf, IsClearOfReads}
use Rattle.timestamp_cache.specs.SeatKinds.{SeatKind, shared_seat}

-- What holds of a kind: what a seat has seen begins with what it had seen; one that goes on and on
-- goes on, also where it goes nowhere; and a write that is clear of an answer is clear of each read
-- on the span that the seat has seen.
pub record SeatLaws {S : Type 0} (kind : SeatKind S) : Type 0 where
  pub begins : (old new : S) → kind.GoesOn old new → BeginsWith (kind.seen new) (kind.seen old)
  pub onward : (old next new : S) → kind.GoesOn old next → kind.GoesOn next new →
      kind.GoesOn old new
  pub stays : (old new : S) → kind.GoesOn old new → kind.GoesOn new new
  pub clear : (old new : S) (span : SpanView) (by : Owner) (at : Time) → kind.GoesOn old new →
      IsClearOf (kind.answer old (kind.seen new) span) by at →
      IsClearOfReads (kind.seen new) span by at

-- ---- the seats of a shared cache

-- one that goes nowhere goes on
pub shared_seat_rests : (seat : SeatView) → IsSeat seat → GoesOn seat seat
shared_seat_rests seat is = record {
  cache = refl;
  number = refl;
  begins = begins_itself seat.seen;
  is_seat = is;
}

-- what holds of each kind holds of them
pub shared_seat_laws : SeatLaws shared_seat
shared_seat_laws = record {
  begins = λ old new on. on.begins;
  onward = λ old next new first second. record {
    cache = second.cache ∙ first.cache;
    number = second.number ∙ first.number;
    begins = begins_on new.seen next.seen old.seen second.begins first.begins;
    is_seat = second.is_seat;
  };
  stays = λ old new on. shared_seat_rests new on.is_seat;
  clear = λ old new span by at on clear. no_write_below_a_read old.cache.config new.seen span by at
      clear;
}

-- a seat that goes on stays at its cache
pub shared_seat_stays : (cache : SharedView) (old new : SeatView) → old.cache ≡ cache →
    GoesOn old new → new.cache ≡ cache
shared_seat_stays cache old new own on = on.cache ∙ own
