-- What a seat is told of a write.
use Rattle.std.proofs.Common.{◌↔◌, IsTrue, Bool, subst, Option, Some, None, IfSome}
use Rattle.tsc_time.specs.Time.{Time}
use Rattle.tsc_time.specs.ValueView.{Owner, ValueView}
use Rattle.tsc_span.specs.Span.{SpanView}
use Rattle.tsc_shared.specs.declared.answers.Answer.{Answer}
use Rattle.tsc_shared.specs.Seats.{SeatView}
use Rattle.tsc_shared.specs.Answers.{AnswersLookup}
use Rattle.timestamp_cache.specs.SeatKinds.{SeatKind, LooksUp, shared_seat}
use Rattle.timestamp_cache.specs.Clear.{IsClearOf, IsClearOfReads, AsksAt, AsksEarliestAt}
use Rattle.timestamp_cache.specs.SeatLaws.{SeatLaws}
use Rattle.timestamp_cache.specs.Earliest.{ReportsEarliest}

pub asks : {S : Type 0} (kind : SeatKind S) (old new : S) (span : SpanView) (by : Owner)
    (at : Time) (value : ValueView) (clear : Bool) → SeatLaws kind →
    LooksUp kind old new span value
    → IsTrue clear ↔ IsClearOf value by at → AsksAt kind old new span by at clear
asks kind old new span by at value clear laws looks reported =
    let is : IsTrue clear ↔ IsClearOf (kind.answer old (kind.seen new) span) by at =
    subst (λ (v : ValueView). IsTrue clear ↔ IsClearOf v by at) looks.value_is reported in
    record {
      goes_on = looks.goes_on;
      count = looks.count;
      value = is;
      reads = λ yes. laws.clear old new span by at looks.goes_on (is.0 yes);
    }

pub asks_earliest : {S : Type 0} (kind : SeatKind S) (old new : S) (span : SpanView) (by : Owner)
    (from : Time) (value : ValueView) (reported : Option Time) → SeatLaws kind →
    LooksUp kind old new span value
    → ReportsEarliest (λ t. IsClearOf value by t) from reported →
    AsksEarliestAt kind old new span by from reported
asks_earliest kind old new span by from value reported laws looks reports =
    let is : ReportsEarliest (λ t. IsClearOf (kind.answer old (kind.seen new) span) by t) from
    reported =
    subst (λ (v : ValueView). ReportsEarliest (λ t. IsClearOf v by t) from reported)
    looks.value_is reports in
    record {
      goes_on = looks.goes_on;
      count = looks.count;
      earliest = is;
      reads = reads_there reported is;
    }
  where
    reads_there : (o : Option Time) →
        ReportsEarliest (λ t. IsClearOf (kind.answer old (kind.seen new) span) by t) from o →
        IfSome o (λ t. IsClearOfReads (kind.seen new) span by t)
    reads_there None none = tt
    reads_there (Some t) is = laws.clear old new span by t looks.goes_on is.holds

-- ---- at a shared cache

-- what a lookup of a shared cache answers
pub shared_looks : (old new : SeatView) (span : SpanView) (answer : Answer) →
    AnswersLookup old new span answer → LooksUp shared_seat old new span answer.value
shared_looks old new span answer looks = record {
  goes_on = looks.goes_on;
  count = looks.count;
  value_is = looks.value;
}
