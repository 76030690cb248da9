-- When a write is clear of reads, and of what lookups answer.
use Rattle.std.specs.Prelude.{◌≡◌, ◌↔◌, List, [], ◌∷◌, true, false, All, Bool, IsTrue, Option, Some, None, IfSome}
use Rattle.std.specs.List.{Contains}
use Rattle.tsc_time.specs.Time.{Time, is_before}
use Rattle.tsc_time.specs.ValueView.{Owner}
use Rattle.tsc_span.specs.Span.{SpanView, overlaps}
use Rattle.tsc_page_model.specs.Page.{Mark}
use Rattle.tsc_cache.specs.declared.history.Entry.{Entry}
use Rattle.tsc_cache.specs.History.{History, BeginsWith}
use Rattle.tsc_cache.specs.CacheView.{CacheView, cache_answer}
pub use Rattle.tsc_cache.specs.Laws.{IsClearOf}
use Rattle.timestamp_cache.specs.SeatKinds.{SeatKind}
use Rattle.timestamp_cache.specs.Earliest.{ReportsEarliest}

-- A write is clear of each read of a history on a span.
abbrev pub IsClearOfReads : History → SpanView → Owner → Time → Type 0
IsClearOfReads h span by at = (e : Entry) (m : Mark) → Contains h e → Contains e.marks m →
    overlaps m.span span ≡ true → IsClearOf m.value by at

-- a write at a time is clear of each read of a history on any of some spans
abbrev pub IsClearOfAllReads : History → List SpanView → Owner → Time → Type 0
IsClearOfAllReads h spans by at = All (λ span. IsClearOfReads h span by at) spans

-- A write is clear of what a lookup of each of some spans answers.
abbrev pub IsClearOfAnswers : CacheView → List SpanView → Owner → Time → Type 0
IsClearOfAnswers cache spans by at = All (λ span. IsClearOf (cache_answer cache span) by at) spans

-- A seat asks whether a write is clear: it is told so just where that is clear of the answer from
-- all that the seat has seen then, and where it is told so, that is clear of each read on the span
-- there.
pub record AsksAt {S : Type 0} (kind : SeatKind S) (old new : S) (span : SpanView) (by : Owner)
    (at : Time) (clear : Bool) : Type 0 where
  pub goes_on : kind.GoesOn old new
  pub count : kind.count new ≡ kind.count old
  pub value : IsTrue clear ↔ IsClearOf (kind.answer old (kind.seen new) span) by at
  pub reads : IsTrue clear → IsClearOfReads (kind.seen new) span by at

-- A seat asks for the earliest time, from one on, at which a write is clear: it is told the
-- earliest at which that is clear of the answer from all that the seat has seen then, and there it
-- is clear of each read on the span in that.
pub record AsksEarliestAt {S : Type 0} (kind : SeatKind S) (old new : S) (span : SpanView)
    (by : Owner) (from : Time) (reported : Option Time) : Type 0 where
  pub goes_on : kind.GoesOn old new
  pub count : kind.count new ≡ kind.count old
  pub earliest : ReportsEarliest
      (λ t. IsClearOf (kind.answer old (kind.seen new) span) by t) from reported
  pub reads : IfSome reported (λ t. IsClearOfReads (kind.seen new) span by t)

-- A seat asks of some spans in turn, of each from the time on that it was told of the one before
-- it. Where it is told none, it asks no further.
pub data AsksInTurn {S : Type 0} (kind : SeatKind S) (by : Owner) : S → S → List SpanView → Time →
    Option Time → Type 0 where
  all_asked : (seat : S) (at : Time) → AsksInTurn kind by seat seat [] at (Some at)
  none_reported : (old new : S) (span : SpanView) (others : List SpanView) (from : Time) →
      AsksEarliestAt kind old new span by from None →
      AsksInTurn kind by old new (span ∷ others) from None
  one_reported : (old next new : S) (span : SpanView) (others : List SpanView) (from at : Time)
      (reported : Option Time)
      → AsksEarliestAt kind old next span by from (Some at) →
      AsksInTurn kind by next new others at reported →
      AsksInTurn kind by old new (span ∷ others) from reported

-- A write is clear of each read on some spans, of each in the history that was seen when it was
-- asked of. Each history begins with the one before it.
pub data IsClearInTurn (by : Owner) (at : Time) : History → List SpanView → History → Type 0 where
  all_clear : (seen : History) → IsClearInTurn by at seen [] seen
  one_clear : (before seen last : History) (span : SpanView) (others : List SpanView) →
      BeginsWith seen before → IsClearOfReads seen span by at
      → IsClearInTurn by at seen others last → IsClearInTurn by at before (span ∷ others) last

-- A write is clear of each read of a history on the last of some spans.
abbrev pub IsClearOfLast : History → List SpanView → Owner → Time → Type 0
IsClearOfLast h [] by at = Unit {0}
IsClearOfLast h (span ∷ []) by at = IsClearOfReads h span by at
IsClearOfLast h (span ∷ next ∷ others) by at = IsClearOfLast h (next ∷ others) by at

-- A seat asks for the earliest time, from one on, at which a write of all of some spans is clear:
-- it asks of them in turn. A time that it is told is not before the one from which it asked. The
-- write is clear there of three kinds of reads.
pub record AsksOfAllAt {S : Type 0} (kind : SeatKind S) (old new : S) (spans : List SpanView)
    (by : Owner) (from : Time) (reported : Option Time) : Type 0 where
  pub goes_on : kind.GoesOn old new
  pub count : kind.count new ≡ kind.count old
  pub in_turn : AsksInTurn kind by old new spans from reported
  pub from_on : IfSome reported (λ t. is_before t from ≡ false)
  -- the write is clear of each read on each span that the seat had seen when it asked of that one
  pub each : IfSome reported (λ t. IsClearInTurn by t (kind.seen old) spans (kind.seen new))
  -- the write is clear of each read on the last span that the seat has seen in the end
  pub last : IfSome reported (λ t. IsClearOfLast (kind.seen new) spans by t)
  -- the write is clear of each read on any span that the seat had seen when it was called
  pub reads : IfSome reported (λ t. IsClearOfAllReads (kind.seen old) spans by t)
