-- The seats of a cache in stripes, as a kind of seats.
use Rattle.std.specs.Prelude.{◌≡◌, refl, true}
use Rattle.std.proofs.Common.{◌∙◌, subst}
use Rattle.tsc_cache.proofs.Beginnings.{begins_itself, begins_on}
use Rattle.tsc_striped.specs.Touching.{are_in_order}
use Rattle.tsc_striped.specs.Looks.{look_over}
use Rattle.tsc_striped.specs.Seats.{StripedView, SeatView, IsSeat}
use Rattle.tsc_striped.specs.Answers as striped
use Rattle.tsc_striped.proofs.Histories.{no_write_below_a_read_over}
use Rattle.timestamp_cache.specs.SeatKinds.{SeatKind}
use Rattle.timestamp_cache.specs.SeatLaws.{SeatLaws}

-- A lookup answers what the caches of all stripes that the span touches come to together.
abbrev pub striped_seat : SeatKind SeatView
striped_seat = record {
  seen = λ seat. seat.seen;
  count = λ seat. seat.count;
  answer = λ seat h span. look_over seat.cache.terms h span;
  GoesOn = striped.GoesOn;
}

-- one that goes nowhere goes on
pub striped_seat_rests : (seat : SeatView) → IsSeat seat → striped.GoesOn seat seat
striped_seat_rests seat is = record {
  cache = refl;
  number = refl;
  begins = begins_itself seat.seen;
  is_seat = is;
}

-- what holds of each kind holds of them
pub striped_seat_laws : SeatLaws striped_seat
striped_seat_laws = record {
  begins = λ old new on. on.begins;
  onward = λ old next new first second. record {
    cache = second.cache ∙ first.cache;
    number = second.number ∙ first.number;
    begins = begins_on new.seen next.seen old.seen second.begins first.begins;
    is_seat = second.is_seat;
  };
  stays = λ old new on. striped_seat_rests new on.is_seat;
  clear = λ old new span by at on. no_write_below_a_read_over old.cache.terms new.seen span by at
      (subst (λ (cache : StripedView). are_in_order cache.terms.bounds ≡ true) on.cache
      on.is_seat.settled.in_order);
}

-- and a seat that goes on stays at its cache
pub striped_seat_stays : (cache : StripedView) (old new : SeatView) → old.cache ≡ cache →
    striped.GoesOn old new → new.cache ≡ cache
striped_seat_stays cache old new own on = on.cache ∙ own
