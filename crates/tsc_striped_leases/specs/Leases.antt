-- What a seat of a cache in stripes is told of the reads of a span, and takes over.
use Rattle.std.specs.Prelude.{◌≡◌, ℕ, suc, ◌-◌, List, [], ◌∷◌, length, true}
use Rattle.std.specs.List.{Contains}
use Rattle.tsc_time.specs.Joint.{IsAtMost}
use Rattle.tsc_span.specs.Span.{KeyBytes, SpanView, overlaps}
use Rattle.tsc_page_model.specs.Page.{Mark}
use Rattle.tsc_cache.specs.CacheView.{CacheView}
use Rattle.tsc_cache.specs.declared.history.Entry.{Entry}
use Rattle.tsc_cache.specs.History.{History}
use Rattle.tsc_stripe_table.specs.Stripes.{piece_of}
use Rattle.tsc_striped.specs.Touching.{first_touched, last_touched}
use Rattle.tsc_striped.specs.Looks.{StandFrom, look_over}
use Rattle.tsc_striped.specs.Seats.{SeatView}
use Rattle.tsc_striped.specs.Answers.{GoesOn}
use Rattle.timestamp_cache.specs.HandOver.{Summary, Summarizes, IsWithin, summary_answer}

-- A seat has looked: it counts as many Adds of its own as before, and may have seen more.
pub record HasLookedOn (old new : SeatView) : Type 0 where
  pub goes_on : GoesOn old new
  pub count : new.count ≡ old.count

-- One of some summaries tells no less than a mark, of a part of a span.
pub record ReportsMark (reported : List Summary) (m : Mark) (inner : SpanView) : Type 0 where
  pub one : Summary
  pub there : Contains reported one
  pub part : SpanView
  pub within : IsWithin part inner
  pub its : IsWithin part one.span
  pub no_less : IsAtMost m.value (summary_answer one part)

-- Some summaries of a span tell no less than each read of a history within it.
abbrev pub ReportReads : History → SpanView → List Summary → Type 0
ReportReads h of reported = (inner : SpanView) (e : Entry) (m : Mark) → IsWithin inner of
    → Contains h e → Contains e.marks m → overlaps m.span inner ≡ true →
    ReportsMark reported m inner

-- Summaries of caches, each of what lies of a span in its stripe, and in at most `most` marks: the
-- first cache is that of a stripe, and each other one that of the next.
abbrev pub SummarizeFrom : List KeyBytes → SpanView → ℕ → ℕ → List CacheView → List Summary → Type 0
SummarizeFrom bounds of most stripe [] [] = Unit {0}
SummarizeFrom bounds of most stripe [] (one ∷ reported) = ⊥
SummarizeFrom bounds of most stripe (cache ∷ caches) [] = ⊥
SummarizeFrom bounds of most stripe (cache ∷ caches) (one ∷ reported) =
    Summarizes cache (piece_of bounds stripe of) most one
    × SummarizeFrom bounds of most (suc stripe) caches reported

-- A seat summarizes a span, in at most `most` marks for each stripe that the span touches: for each
-- of them a cache stands for its state after all that the seat has seen then, and a summary is of
-- that cache, on what lies of the span in that stripe. So these tell no less than each read there.
pub record SummarizesInStripes (old new : SeatView) (of : SpanView) (most : ℕ)
    (reported : List Summary) : Type 0 where
  pub looked : HasLookedOn old new
  pub caches : List CacheView
  pub all : length caches ≡ suc (last_touched old.cache.terms.bounds of
      - first_touched old.cache.terms.bounds of)
  pub stand : StandFrom old.cache.terms new.seen (first_touched old.cache.terms.bounds of) caches
  pub summarize : SummarizeFrom old.cache.terms.bounds of most
      (first_touched old.cache.terms.bounds of) caches reported
  pub reads : ReportReads new.seen of reported

-- What a seat has seen has taken over a summary: no answer is less than what the summary tells of
-- any part of its span within the span that is asked for.
abbrev pub TakesOverInStripes : SeatView → Summary → Type 0
TakesOverInStripes seat reported = (part inner : SpanView) → IsWithin part reported.span
    → IsWithin part inner
    → IsAtMost (summary_answer reported part) (look_over seat.cache.terms seat.seen inner)

-- Where what a seat has seen has taken over all summaries that tell of a history's reads, no answer
-- on a span is below a read of that history there.
abbrev pub ReadsAreHandedOn : Type 0
ReadsAreHandedOn = (h : History) (of : SpanView) (reported : List Summary) (seat : SeatView)
    → ReportReads h of reported
    → ((one : Summary) → Contains reported one → TakesOverInStripes seat one)
    → (inner : SpanView) (e : Entry) (m : Mark) → IsWithin inner of → Contains h e
    → Contains e.marks m → overlaps m.span inner ≡ true
    → IsAtMost m.value (look_over seat.cache.terms seat.seen inner)
