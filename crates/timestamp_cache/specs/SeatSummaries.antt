-- What a seat of a shared cache is told of the reads of a span.
use Rattle.std.specs.Prelude.{◌≡◌, ℕ, length, true}
use Rattle.std.specs.List.{Contains}
use Rattle.tsc_time.specs.Joint.{IsAtMost}
use Rattle.tsc_span.specs.Span.{SpanView, overlaps}
use Rattle.tsc_page_model.specs.Page.{Mark}
use Rattle.tsc_cache.specs.CacheView.{CacheView, RepresentsState}
use Rattle.tsc_cache.specs.declared.history.Entry.{Entry}
use Rattle.tsc_cache.specs.History.{History, state_of}
use Rattle.tsc_shared.specs.Seats.{SeatView}
use Rattle.tsc_shared.specs.Answers.{GoesOn}
use Rattle.timestamp_cache.specs.declared.hand_over.SeatSummary.{SeatSummary}
use Rattle.timestamp_cache.specs.HandOver.{Summary, Summarizes, IsWithin, summary_answer}

-- A summary tells no less than each read of a history within its span.
abbrev pub ReportsReads : History → Summary → Type 0
ReportsReads h reported = (inner : SpanView) (e : Entry) (m : Mark) → IsWithin inner reported.span →
    Contains h e → Contains e.marks m → overlaps m.span inner ≡ true →
    IsAtMost m.value (summary_answer reported inner)

-- A seat summarizes a span, in at most `most` marks: a cache stands for the state of all that the
-- seat has seen then, and the summary is of that cache. So it tells no less than each read there.
pub record SummarizesAt (old new : SeatView) (of : SpanView) (most : ℕ) (reported : SeatSummary) :
    Type 0 where
  pub goes_on : GoesOn old new
  pub count : new.count ≡ old.count
  pub front : reported.front ≡ length new.seen
  pub cache : CacheView
  pub stands : RepresentsState cache old.cache.config (state_of old.cache.config new.seen)
  pub summarizes : Summarizes cache of most reported.summary
  pub reads : ReportsReads new.seen reported.summary
