-- What becomes of the participant of a seat that adds a batch. (For private contracts.)
use Rattle.std.specs.Prelude.{◌≡◌, ◌⊎◌, ℕ, suc, ◌-◌, ◌<◌, ◌≤◌, List, [], ◌∷◌, ◌++◌}
use Rattle.tsc_page_model.specs.Page.{Mark}
use Rattle.tsc_time.specs.Time.{Time}
use Rattle.tsc_cache.specs.declared.added.Added.{Added}
use Rattle.tsc_cache.specs.declared.history.Entry.{Entry}
use Rattle.tsc_cache.specs.History.{History, own_count, BeginsWith, IsLegal, CanAllBeAdded}
use Rattle.tsc_cache.specs.CacheView.{CacheView, StandsAfterAll, ReportsAddedAll}
use Rattle.tsc_stripe_table.specs.declared.table.SeatState.{SeatState}
use Rattle.tsc_stripe_table.specs.Stripes.{Terms, marks_in, stripe_count}
use Rattle.tsc_stripe_table.specs.Rule.{times_held}
use Rattle.tsc_stripe_table.specs.Steps.{At, seated, number_of, seen_of, count_of, reached_of}
use Rattle.tsc_stripe_table.specs.Steps.{holds_of, state_in, with_state, reached_with, AgreeOn}
use Rattle.tsc_stripe_table.specs.Participating.{CanAcquire}
use Rattle.tsc_striped.specs.declared.batch.Batch.{Batch}
use Rattle.tsc_striped.specs.declared.wide_adds.Stop.{Stop}
use Rattle.tsc_striped.specs.declared.wide_adds.Stop.TheVariants.{Busy, NoMemory}
use Rattle.tsc_striped.specs.Limits.{least_page_max}
use Rattle.tsc_striped.specs.Cutting.{IsCut, IsAmong}
use Rattle.tsc_striped.specs.Looks.{added_from, added_over, counted}

-- the next entry of a seat, with these marks
abbrev pub entry_of_marks : At → List Mark → Time → Entry
entry_of_marks me ms now = record {
  seat = number_of me.0;
  number = count_of me.0;
  marks = ms;
  now = now;
}

-- the next entry of a seat, for a batch
abbrev pub entry_for : At → Batch → Entry
entry_for me batch = entry_of_marks me batch.marks.items batch.moment

-- a seat after one more Add, with which the history is this one
abbrev pub with_added : SeatState → History → SeatState
with_added p h = record p { seen = h; count = suc p.count; reached = reached_with p.holds h }

-- A seat may add a batch in the stripes from one on: it holds all other stripes on which the batch
-- lies.
pub record CanAddFrom (me : At) (batch : Batch) (stripe : ℕ) : Type 0 where
  pub acquire : CanAcquire me.0 stripe
  pub reached : reached_with (holds_of me.0) (reached_of me.0) ≡ reached_of me.0
  pub cut : IsCut me.0.setup.bounds batch
  pub can : CanAllBeAdded me.0.setup.config batch.marks.items batch.moment
  pub room : least_page_max ≤ me.0.setup.config.page_max
  pub among : IsAmong batch stripe
  pub covered : (other : ℕ) → other < stripe
      → (marks_in me.0.setup.bounds other batch.marks.items ≡ [])
      ⊎ (0 < times_held other (holds_of me.0))

-- A seat that holds locks has added a batch, right behind a history that begins with what it had
-- seen, and for which the stripes that it holds stand as before.
pub record AddsFrom (me me' : At) (batch : Batch) (stripe : ℕ) (added : Added) : Type 0 where
  pub before : History
  pub after : me' ≡ (
    with_state me.0 (with_added (state_in me.0) (before ++ entry_for me batch ∷ [])),
    me.1,
  )
  pub begins : BeginsWith before (seen_of me.0)
  pub legal : IsLegal me.0.setup.config me.0.setup.seats (before ++ entry_for me batch ∷ [])
  pub own : own_count (number_of me.0) (before ++ entry_for me batch ∷ []) ≡ suc (count_of me.0)
  pub unchanged : AgreeOn me.0.setup.bounds (holds_of me.0) before (reached_of me.0)
  pub added_is : added ≡ counted (added_from me.0.setup before batch.marks.items batch.moment
      stripe (batch.last - stripe))

-- A seat that holds locks holds the same ones, and has reached a history for which its stripes
-- stand as before.
pub record StaysOn (me me' : At) : Type 0 where
  pub history : History
  pub after : me' ≡ (
    with_state me.0 (record (state_in me.0) { reached = reached_with (holds_of me.0) history }),
    me.1,
  )
  pub unchanged : AgreeOn me.0.setup.bounds (holds_of me.0) history (reached_of me.0)

-- A seat has added some marks as one entry, right behind a history that begins with what it had
-- seen.
pub record AddsAll (me me' : At) (ms : List Mark) (now : Time) (added : Added) : Type 0 where
  pub before : History
  pub after : me' ≡ (
    seated me.0.setup (number_of me.0) (before ++ entry_of_marks me ms now ∷ []) (suc (count_of me.0)),
    [],
  )
  pub begins : BeginsWith before (seen_of me.0)
  pub legal : IsLegal me.0.setup.config me.0.setup.seats (before ++ entry_of_marks me ms now ∷ [])
  pub own : own_count (number_of me.0) (before ++ entry_of_marks me ms now ∷ []) ≡ suc (count_of me.0)
  pub added_is : added ≡ added_over me.0.setup before ms now

-- Why an Add of a batch stopped: the lock of this stripe was held, or memory was refused.
abbrev pub IsStop : Terms → Stop → Type 0
IsStop terms (Busy stripe) = stripe < stripe_count terms.bounds
IsStop terms NoMemory = Unit {0}

-- the next version of the cache in hand, and what was added there
pub record IsVersion (cache next : CacheView) (ms : List Mark) (now : Time) (added : Added)
    : Type 0 where
  pub stands : StandsAfterAll cache next ms now
  pub added_is : ReportsAddedAll cache ms now added
