-- What follows from the definitions, for every configuration, history and span.
use Rattle.std.specs.Prelude.{◌≡◌, ◌↔◌, ◌&&◌, ◌++◌, ◌∷◌, [], ℕ, List, Bool, true, false, Some, None}
use Rattle.std.specs.List.{Contains}
use Rattle.tsc_time.specs.Time.{Time, is_before, time_minus}
use Rattle.tsc_time.specs.ValueView.{Owner, ValueView}
use Rattle.tsc_time.specs.Joint.{IsAtMost}
use Rattle.tsc_span.specs.Span.{KeyBytes, SpanView, point, overlaps, covers}
use Rattle.tsc_page_model.specs.Page.{Mark}
use Rattle.tsc_cache.specs.ConfigView.{ConfigView}
use Rattle.tsc_cache.specs.State.{CacheState, step_all, look}
use Rattle.tsc_cache.specs.CacheView.{CacheView, RepresentsState, StandsAfterAll, cache_answer}
use Rattle.tsc_cache.specs.declared.history.Entry.{Entry}
use Rattle.tsc_cache.specs.History.{History, state_from, state_of, BeginsWith}
use Rattle.tsc_shared.specs.declared.answers.Receipt.{Receipt}
use Rattle.tsc_shared.specs.Seats.{SeatView, FrontView}
use Rattle.tsc_shared.specs.Answers.{Accepts, Learns, GoesOn, IsAbove}
use Rattle.timestamp_cache.specs.Clear.{IsClearOf, IsClearOfReads}
use Rattle.timestamp_cache.specs.Earliest.{IsEarliest, ReportsEarliest, Stays}
use Rattle.timestamp_cache.specs.HandOver.{Summary, summary_answer, IsWithin, ReportsOf, marks_reported}

-- An Add on one seat, and a lookup on another that had learned a front of it: the front has what
-- the first seat had seen behind that Add, or more.
pub record Carries (adder added guest reported later : SeatView) (ms : List Mark) (span : SpanView)
    (answer : ValueView) : Type 0 where
  pub now : Time
  pub receipt : Receipt
  pub front : FrontView
  pub long : ℕ
  pub adds : Accepts adder added ms now receipt
  pub shows : BeginsWith front.seen receipt.front.seen
  pub learns : Learns guest reported front long
  pub goes_on : GoesOn reported later
  pub above : IsAbove later span answer

-- What was added on the span is then at most what the lookup answers, and a write that is clear of
-- the answer is clear of it.
pub record ReadsAreCarried : Type 0 where
  pub bounded : (adder added guest reported later : SeatView) (ms : List Mark) (span : SpanView)
      (answer : ValueView) (m : Mark) → Carries adder added guest reported later ms span answer
      → Contains ms m → overlaps m.span span ≡ true → IsAtMost m.value answer
  pub clear : (adder added guest reported later : SeatView) (ms : List Mark) (span : SpanView)
      (answer : ValueView) (m : Mark) (by : Owner) (at : Time) →
      Carries adder added guest reported later ms span answer
      → Contains ms m → overlaps m.span span ≡ true → IsClearOf answer by at →
      IsClearOf m.value by at

-- A cache answers to each span what each state answers that it stands for. So what is said of a
-- cache's answers holds of a lookup in such a state.
abbrev pub AnswersAreLookedUp : Type 0
AnswersAreLookedUp = (cache : CacheView) (config : ConfigView) (s : CacheState) (span : SpanView) →
    RepresentsState cache config s → cache_answer cache span ≡ look s span

-- A time is no earlier than the moment of any entry less the retention, where there is such a time.
abbrev pub IsRetained : ConfigView → History → Time → Type 0
IsRetained config h at = (e : Entry) (limit : Time) → Contains h e →
    time_minus e.now config.retention ≡ Some limit → is_before at limit ≡ false

-- A read of a history on a span that a write isn't clear of.
pub record Pushes (h : History) (span : SpanView) (by : Owner) (at : Time) : Type 0 where
  pub entry : Entry
  pub mark : Mark
  pub added : Contains h entry
  pub there : Contains entry.marks mark
  pub over : overlaps mark.span span ≡ true
  pub not_clear : IsClearOf mark.value by at → ⊥

-- A write above the low-water time of the settings, at a time that is retained, that isn't clear of
-- what a lookup answers, is pushed by a read.
abbrev pub PushedByReadsAlone : Type 0
PushedByReadsAlone = (config : ConfigView) (h : History) (span : SpanView) (by : Owner) (at : Time)
    → IsRetained config h at → is_before config.low_water at ≡ true
    → (IsClearOf (look (state_of config h) span) by at → ⊥) → Pushes h span by at

-- A write is clear of a read just where the read is at most the write's own time and owner.
abbrev pub ClearIsAtMost : Type 0
ClearIsAtMost = (read : ValueView) (by : Owner) (at : Time) →
    IsClearOf read by at ↔ IsAtMost read (record { time = at; owner = Some by })

-- A summary tells of the state that a history left, and is applied to some other state, which goes
-- on with whatever entries. A write that is clear of what that one answers then, on a span within
-- the summary's, is clear of each read of the history there.
abbrev pub ReadsAreHandedOn : Type 0
ReadsAreHandedOn = (config others : ConfigView) (h later : History) (s : CacheState)
    (reported : Summary) (now : Time) (inner : SpanView) (by : Owner) (at : Time)
    → ReportsOf (state_of config h) reported → IsWithin inner reported.span
    → IsClearOf (look (state_from others (step_all others s (marks_reported reported) now).state
    later) inner) by at → IsClearOfReads h inner by at

-- Whatever is added to a cache that stands for the state of some history, no answer sinks, and each
-- mark that is added is at most what is answered on its span then.
pub record AnswersRise : Type 0 where
  pub no_less : (old new : CacheView) (config : ConfigView) (h : History) (ms : List Mark)
      (now : Time) (span : SpanView) → RepresentsState old config (state_of config h)
      → StandsAfterAll old new ms now → IsAtMost (cache_answer old span) (cache_answer new span)
  pub kept : (old new : CacheView) (config : ConfigView) (h : History) (ms : List Mark)
      (now : Time) (m : Mark) (span : SpanView) → RepresentsState old config (state_of config h)
      → StandsAfterAll old new ms now → Contains ms m → overlaps m.span span ≡ true
      → IsAtMost m.value (cache_answer new span)

-- What is clear of a read at some time is so at each later one.
abbrev pub ClearStaysClear : Type 0
ClearStaysClear = (read : ValueView) (by : Owner) (at later : Time) → is_before later at ≡ false
    → IsClearOf read by at → IsClearOf read by later

-- A summary that tells of a state tells no less than that answers, of each span within its own. A
-- key of a span lies within it.
pub record SummariesReportNoLess : Type 0 where
  pub no_less : (s : CacheState) (reported : Summary) (inner : SpanView) → ReportsOf s reported
      → IsWithin inner reported.span → IsAtMost (look s inner) (summary_answer reported inner)
  pub keys : (span : SpanView) (k : KeyBytes) → covers span k ≡ true → IsWithin (point k) span

-- A cache to which marks are added stands for the history before with one entry more.
abbrev pub AddsAreEntries : Type 0
AddsAreEntries = (old new : CacheView) (config : ConfigView) (h : History) (ms : List Mark)
    (now : Time) → RepresentsState old config (state_of config h)
    → StandsAfterAll old new ms now → RepresentsState new config
    (state_of config (h ++ record { seat = 0; number = 0; marks = ms; now = now } ∷ []))

-- What is clear of a read is clear of each that is at most that.
abbrev pub ClearOfLess : Type 0
ClearOfLess = (less read : ValueView) (by : Owner) (at : Time) → IsAtMost less read
    → IsClearOf read by at → IsClearOf less by at

-- Times are in a total order.
pub record IsOrderOfTimes : Type 0 where
  pub itself : (t : Time) → is_before t t ≡ false
  pub opposite : (t u : Time) → is_before t u ≡ true → is_before u t ≡ false
  pub transitive : (t u v : Time) → is_before t u ≡ true → is_before u v ≡ true
      → is_before t v ≡ true
  pub no_earlier : (t u v : Time) → is_before u t ≡ false → is_before v u ≡ false
      → is_before v t ≡ false
  pub same : (t u : Time) → is_before t u ≡ false → is_before u t ≡ false → t ≡ u

-- Two tests of times, of which the first stays passed: the earliest time that passes both is found
-- in turn. It is the earliest that passes the second, from the earliest on that passes the first.
-- If none passes the second from there on, none passes both.
pub record EarliestInTurn : Type 0 where
  pub both : (first second : Time → Bool) (from at next : Time) → Stays (λ t. first t ≡ true)
      → IsEarliest (λ t. first t ≡ true) from at → IsEarliest (λ t. second t ≡ true) at next
      → IsEarliest (λ t. (first t && second t) ≡ true) from next
  pub none : (first second : Time → Bool) (from at : Time)
      → IsEarliest (λ t. first t ≡ true) from at
      → ReportsEarliest (λ t. second t ≡ true) at None
      → ReportsEarliest (λ t. (first t && second t) ≡ true) from None
