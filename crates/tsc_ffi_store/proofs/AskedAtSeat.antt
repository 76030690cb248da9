-- What calls that look at a seat of either kind answer, by what its cache said.
use Rattle.std.proofs.Common.{◌≡◌, ◌∙◌, ◌⊎◌, refl, sym, subst, inl, inr, ℕ, List}
use Rattle.std.specs.Prelude.{Option, Some, Result, Ok, Err, IfOk, IfErr, OnErr}
use Rattle.tsc_time.specs.Time.{Time}
use Rattle.tsc_time.specs.ValueView.{ValueView, Owner}
use Rattle.tsc_span.specs.Span.{SpanView}
use Rattle.tsc_shared.specs.Seats.{SeatView as SharedSeat}
use Rattle.tsc_shared.specs.declared.answers.Answer.{Answer}
use Rattle.tsc_shared.specs.Answers as shared
use Rattle.tsc_striped.specs.Seats.{SeatView as StripedSeat}
use Rattle.tsc_striped.specs.Answers as striped
use Rattle.tsc_ffi_store.specs.declared.refusal.Refusal.{Refusal}
use Rattle.tsc_ffi_store.specs.declared.seats.kinds.AnySeat.{AnySeat}
use Rattle.tsc_ffi_store.specs.Decode.{AskedSpan, lookup_span, RefusesEnds}
use Rattle.tsc_ffi_store.specs.Kinds.{ByKind}
use Rattle.tsc_ffi_store.specs.Asking.{LooksShared, LooksStriped}
use Rattle.timestamp_cache.specs.Clear.{IsClearOf}
use Rattle.timestamp_cache.specs.Earliest.{ReportsEarliest}
use Rattle.timestamp_cache.specs.SeatKinds.{shared_seat}
use Rattle.timestamp_cache.specs.SeatLaws.{shared_seat_laws}
use Rattle.timestamp_cache.proofs.Asking.{asks_earliest, shared_looks}
use Rattle.tsc_striped_leases.specs.StripedSeats.{striped_seat, striped_seat_laws}
use Rattle.tsc_striped_leases.proofs.Looking.{looks_up}
use Rattle.tsc_ffi_store.specs.WriteSteps.{AsksLater, AsksLaterStriped}
use Rattle.tsc_ffi_store.specs.SeatCalls.{AnswersSeatLookup}
use Rattle.tsc_ffi_store.specs.StripedCalls.{AnswersStripedLookup}
use Rattle.tsc_ffi_store.proofs.Answering.{seat_looks}
use Rattle.tsc_ffi_store.proofs.ByKinds.{by_kind, by_same}

-- what answers is not refused
abbrev is_ok : {A : Type 0} → Result A Refusal → Type 0
is_ok (Ok reported) = Unit {0}
is_ok (Err other) = ⊥

pub never : {A : Type 0} (reported : A) (why : Refusal) →
    ◌≡◌ {A = Result A Refusal} (Err why) (Ok reported)
    → ⊥
never reported why is = subst is_ok (sym is) tt

-- ---- lookups

pub looked_at : (asked : AskedSpan) (span : SpanView) (answer : Answer) (v : ValueView)
    (old new : AnySeat) → lookup_span asked ≡ Some span → answer.value ≡ v
    → ByKind (LooksShared span) (LooksStriped span) old new (Ok answer)
    → ByKind {A = Result (Unit {0}) Refusal} (AnswersSeatLookup asked answer.front v)
    (AnswersStripedLookup asked answer.front v) old new (Ok tt)
looked_at asked span answer v old new is reported did =
    by_kind (LooksShared span) (LooksStriped span) (AnswersSeatLookup asked answer.front v)
    (AnswersStripedLookup asked answer.front v) (Ok answer) (Ok tt)
    (λ x y a. record {
      looked = seat_looks x y asked span answer v is reported
          (subst (λ (r : Result Answer Refusal). IfOk r
          (λ given. shared.AnswersLookup x y span given)) (sym a.is) a.looked)
          (subst (λ (r : Result Answer Refusal). IfOk r
          (λ given. shared.IsAbove y span given.value)) (sym a.is) a.above)
          (subst (λ (r : Result Answer Refusal). IfOk r
          (λ given. shared.ReportsNoPart y span given.value)) (sym a.is) a.whole);
      refused = tt;
      unchanged = tt;
    })
    (λ x y a. record {
      looked = record {
        span = span;
        asked_for = is;
        looks = subst (λ (w : ValueView). striped.AnswersLookup x y span w) reported a.looked.0;
        counted = a.looked.1;
      };
      refused = tt;
      unchanged = tt;
    }) old new did

pub locked_at : (asked : AskedSpan) (span : SpanView) (seen : ℕ) (v : ValueView) (why : Refusal)
    (old new : AnySeat) → ByKind (LooksShared span) (LooksStriped span) old new (Err why)
    → ByKind {A = Result (Unit {0}) Refusal} (AnswersSeatLookup asked seen v)
    (AnswersStripedLookup asked seen v) old new (Err why)
locked_at asked span seen v why old new did =
    by_kind (LooksShared span) (LooksStriped span) (AnswersSeatLookup asked seen v)
    (AnswersStripedLookup asked seen v) (Err why) (Err why)
    (λ x y a. absurd (never a.answer why a.is))
    (λ x y a. record {
      looked = tt;
      refused = inr a.refused.0;
      unchanged = a.refused.1;
    }) old new did

pub no_such_span : (asked : AskedSpan) (seen : ℕ) (v : ValueView) (why : Refusal) (seat : AnySeat)
    → RefusesEnds why asked.ends
    → ByKind {A = Result (Unit {0}) Refusal} (AnswersSeatLookup asked seen v)
    (AnswersStripedLookup asked seen v) seat seat (Err why)
no_such_span asked seen v why seat is =
    by_same {A = Result (Unit {0}) Refusal} (AnswersSeatLookup asked seen v)
    (AnswersStripedLookup asked seen v) (Err why)
    (λ x. record { looked = tt; refused = is; unchanged = refl })
    (λ x. record { looked = tt; refused = inl is; unchanged = refl }) seat

-- ---- what a write asks of one span more

pub asked_later : (span : SpanView) (by : Owner) (from : Time) (answer : Answer)
    (reported : Option Time) (old new : AnySeat)
    → ByKind (LooksShared span) (LooksStriped span) old new (Ok answer)
    → ReportsEarliest (λ t. IsClearOf answer.value by t) from reported
    → ByKind (AsksLater span by (Some from)) (AsksLaterStriped span by (Some from)) old new
    (Ok reported)
asked_later span by from answer reported old new did reports =
    by_kind (LooksShared span) (LooksStriped span) (AsksLater span by (Some from))
    (AsksLaterStriped span by (Some from)) (Ok answer) (Ok reported)
    (λ x y a. record {
      reported = reported;
      is = refl;
      asks = asks_earliest shared_seat x y span by from answer.value reported shared_seat_laws
          (shared_looks x y span answer (subst (λ (r : Result Answer Refusal). IfOk r
          (λ given. shared.AnswersLookup x y span given)) (sym a.is) a.looked)) reports;
    })
    (λ x y a. record {
      reported = asks_earliest striped_seat x y span by from answer.value reported striped_seat_laws
          (looks_up x y span answer.value a.looked.0) reports;
      refused = tt;
    }) old new did
