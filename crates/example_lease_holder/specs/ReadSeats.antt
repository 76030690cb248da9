-- The seats of a cache of reads, of either form.
use Rattle.std.specs.Prelude.{◌≡◌, ℕ, ◌∷◌, ◌++◌, []}
use Rattle.tsc_striped.specs.Answers as striped
use Rattle.tsc_shared.specs.Answers as shared
use Rattle.tsc_striped.specs.Looks.{look_over}
use Rattle.timestamp_cache.specs.Words.{ValueView, SpanView, look, History, state_of, BeginsWith}
use Rattle.timestamp_cache.specs.Words.{Entry}
use Rattle.timestamp_cache.specs.SeatKinds.{SeatKind}
use Rattle.example_lease_holder.specs.declared.reads.ReadCache.{ReadCache}
use Rattle.example_lease_holder.specs.declared.reads.ReadCache.TheVariants as cache
use Rattle.example_lease_holder.specs.declared.reads.ReadSeat.{ReadSeat}
use Rattle.example_lease_holder.specs.declared.reads.ReadSeat.TheVariants.{Copies, Stripes}
use Rattle.example_lease_holder.specs.declared.reads.ReadFront.{ReadFront}
use Rattle.example_lease_holder.specs.declared.reads.ReadFront.TheVariants as front

-- the history that a seat has seen
abbrev pub seen_by : ReadSeat → History
seen_by (Copies seat) = seat.seen
seen_by (Stripes seat) = seat.seen

-- the cache that a seat is at
abbrev pub cache_of : ReadSeat → ReadCache
cache_of (Copies seat) = cache.Copies seat.cache
cache_of (Stripes seat) = cache.Stripes seat.cache

-- the history that a front shows
abbrev pub shown_by : ReadFront → History
shown_by (front.Copies f) = f.seen
shown_by (front.Stripes f) = f.seen

-- the cache of which it is
abbrev pub shown_of : ReadFront → ReadCache
shown_of (front.Copies f) = cache.Copies f.cache
shown_of (front.Stripes f) = cache.Stripes f.cache

-- A seat goes on as those of its cache do.
abbrev pub GoesOn : ReadSeat → ReadSeat → Type 0
GoesOn (Copies old) (Copies new) = shared.GoesOn old new
GoesOn (Copies old) (Stripes new) = ⊥
GoesOn (Stripes old) (Copies new) = ⊥
GoesOn (Stripes old) (Stripes new) = striped.GoesOn old new

-- how many Adds of a seat were accepted
abbrev pub count_of : ReadSeat → ℕ
count_of (Copies seat) = seat.count
count_of (Stripes seat) = seat.count

-- what a cache answers to a span after a history
abbrev pub answer_of : ReadCache → History → SpanView → ValueView
answer_of (cache.Copies c) h span = look (state_of c.config h) span
answer_of (cache.Stripes c) h span = look_over c.terms h span

-- They are a kind of seats.
abbrev pub read_seat : SeatKind ReadSeat
read_seat = record {
  seen = seen_by;
  count = count_of;
  answer = λ seat h span. answer_of (cache_of seat) h span;
  GoesOn = GoesOn;
}

-- A seat has added a read of a span: behind a history that begins with all that it had seen stands
-- one entry, of that read alone. A front shows all of it.
pub record AddsRead (old new : ReadSeat) (span : SpanView) (read : ValueView) (shown : ReadFront)
    : Type 0 where
  pub before : History
  pub entry : Entry
  pub begins : BeginsWith before (seen_by old)
  pub seen : seen_by new ≡ before ++ entry ∷ []
  pub marks : entry.marks ≡ record { span = span; value = read } ∷ []
  pub front : shown_by shown ≡ seen_by new
  pub cache : shown_of shown ≡ cache_of old

-- Two seats meet: both have seen one history then.
pub record Meets (first second first' second' : ReadSeat) : Type 0 where
  pub first_on : GoesOn first first'
  pub second_on : GoesOn second second'
  pub same : seen_by first' ≡ seen_by second'
