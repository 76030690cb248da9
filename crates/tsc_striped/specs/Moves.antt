-- What becomes of the participant of a seat in a call. (For private contracts.)
use Rattle.std.specs.Prelude.{◌≡◌, ◌≢◌, ℕ, suc, List, [], ◌∷◌, ◌++◌, Option}
use Rattle.tsc_time.specs.Time.{Time}
use Rattle.tsc_span.specs.Span.{KeyBytes, SpanView, nothing}
use Rattle.tsc_page_model.specs.Page.{Mark}
use Rattle.tsc_cache.specs.declared.added.Added.{Added}
use Rattle.tsc_cache.specs.declared.history.Entry.{Entry}
use Rattle.tsc_cache.specs.History.{History, own_count, entry_of_mark, BeginsWith, IsLegal}
use Rattle.tsc_stripe_table.specs.Stripes.{piece_of}
use Rattle.tsc_stripe_table.specs.declared.table.Knowledge.{Knowledge}
use Rattle.tsc_stripe_table.specs.Steps.{At, seated, number_of, seen_of, count_of, reached_of}
use Rattle.tsc_stripe_table.specs.Steps.{holds_of, state_in, with_state, AgreeOn}
use Rattle.tsc_striped.specs.declared.fault.StripeFault.{StripeFault}
use Rattle.tsc_striped.specs.declared.fault.StripeFault.TheVariants.{Busy, NoMemory}
use Rattle.tsc_striped.specs.Looks.{added_on}
use Rattle.tsc_striped.specs.Waiting.{HasEnd}

-- A span lies in one stripe: all of it lies there, and nothing of it in any other.
pub record LiesIn (bounds : List KeyBytes) (stripe : ℕ) (span : SpanView) : Type 0 where
  pub whole : piece_of bounds stripe span ≡ span
  pub none : (other : ℕ) → other ≢ stripe → piece_of bounds other span ≡ nothing

-- A seat has looked: it has seen a history that begins with what it had seen, and of which this
-- holds.
pub record HasLooked (me me' : At) (holds : History → Type 0) : Type 0 where
  pub history : History
  pub after : me' ≡ (seated me.0.setup (number_of me.0) history (count_of me.0), [])
  pub begins : BeginsWith history (seen_of me.0)
  pub legal : IsLegal me.0.setup.config me.0.setup.seats history
  pub own : own_count (number_of me.0) history ≡ count_of me.0
  pub found : holds history

-- the next entry of a seat, for this mark
abbrev pub entry_at : At → Mark → Time → Entry
entry_at me m now = entry_of_mark (number_of me.0) (count_of me.0) m now

-- A seat has added a mark in a stripe, right behind a history that begins with what it had seen.
pub record AddsIn (me me' : At) (stripe : ℕ) (m : Mark) (now : Time) (added : Added) : Type 0
  where
    pub before : History
    pub after : me' ≡ (
      seated me.0.setup (number_of me.0) (before ++ entry_at me m now ∷ []) (suc (count_of me.0)),
      [],
    )
    pub begins : BeginsWith before (seen_of me.0)
    pub legal : IsLegal me.0.setup.config me.0.setup.seats (before ++ entry_at me m now ∷ [])
    pub own : own_count (number_of me.0) (before ++ entry_at me m now ∷ []) ≡ suc (count_of me.0)
    pub added_is : added ≡ added_on me.0.setup before (m ∷ []) now stripe

-- Why a call in stripes is refused: a lock was held at each of the tries, which have an end, or
-- memory was refused.
abbrev pub IsStripeFault : Option ℕ → StripeFault → Type 0
IsStripeFault tries Busy = HasEnd tries
IsStripeFault tries NoMemory = Unit {0}

-- What a seat that holds locks has reached: a legal history that begins with what it had seen, and
-- that has all its Adds.
pub record HasReached (v : Knowledge) : Type 0 where
  pub begins : BeginsWith (reached_of v) (seen_of v)
  pub legal : IsLegal v.setup.config v.setup.seats (reached_of v)
  pub own : own_count (number_of v) (reached_of v) ≡ count_of v

-- A seat holds the same locks, and has reached a history for which its stripes stand as before, and
-- of which this holds.
pub record ReachesOn (me me' : At) (holds : History → Type 0) : Type 0 where
  pub history : History
  pub after : me' ≡ (with_state me.0 (record (state_in me.0) { reached = history }), me.1)
  pub begins : BeginsWith history (seen_of me.0)
  pub legal : IsLegal me.0.setup.config me.0.setup.seats history
  pub own : own_count (number_of me.0) history ≡ count_of me.0
  pub unchanged : AgreeOn me.0.setup.bounds (holds_of me.0) history (reached_of me.0)
  pub found : holds history
