-- What lookups at seats of a cache in stripes answer.
use Rattle.std.proofs.Common.{◌≡◌, ℕ}
use Rattle.std.specs.Prelude.{Result, Ok, Err, IfOk, OnErr}
use Rattle.tsc_time.specs.ValueView.{ValueView}
use Rattle.tsc_span.specs.Span.{SpanView}
use Rattle.tsc_striped.specs.declared.answers.Busy.{Busy}
use Rattle.tsc_striped.specs.Seats.{SeatView}
use Rattle.tsc_striped.specs.Answers.{AnswersLookup, Tries}
use Rattle.timestamp_cache.specs.SeatKinds.{LooksUp}
use Rattle.tsc_striped_leases.specs.StripedSeats.{striped_seat}

-- a lookup that answers
pub looks_up : (old new : SeatView) (span : SpanView) (value : ValueView) →
    AnswersLookup old new span value → LooksUp striped_seat old new span value
looks_up old new span value looks = record {
  goes_on = looks.goes_on;
  count = looks.count;
  value_is = looks.value_is;
}

-- one that may give up
pub tries_up : {tries : ℕ} (old new : SeatView) (span : SpanView) (r : Result ValueView Busy)
    → Tries old new tries (AnswersLookup old new span) r
    → IfOk r (λ value. LooksUp striped_seat old new span value)
tries_up old new span (Ok value) reported = looks_up old new span value reported.answered
tries_up old new span (Err busy) reported = tt

-- and leaves the seat then
pub gives_up : {tries : ℕ} (old new : SeatView) (span : SpanView) (r : Result ValueView Busy)
    → Tries old new tries (AnswersLookup old new span) r → OnErr r (Unit {0} × (new ≡ old))
gives_up old new span (Ok value) reported = tt
gives_up old new span (Err busy) reported = (tt, reported.busy)
