-- What follows from the definitions, for every cache in stripes, every history and every span.
use Rattle.std.specs.Prelude.{◌≡◌, ◌≢◌, ◌⊎◌, ℕ, [], true, false, Contains, Some}
use Rattle.tsc_time.specs.Time.{Time, is_before, time_minus}
use Rattle.tsc_time.specs.ValueView.{Owner}
use Rattle.tsc_time.specs.Joint.{joint_above, IsAtMost}
use Rattle.tsc_span.specs.Span.{SpanView, overlaps}
use Rattle.tsc_page_model.specs.Page.{Mark}
use Rattle.tsc_cache.specs.ConfigView.{ConfigView}
use Rattle.tsc_cache.specs.declared.history.Entry.{Entry}
use Rattle.tsc_cache.specs.History.{History, state_of, marks_on, BeginsWith, IsLegal}
use Rattle.tsc_cache.specs.Laws.{IsClearOf}
use Rattle.tsc_stripe_table.specs.Stripes.{Terms, marks_in, state_on}
use Rattle.tsc_striped.specs.Touching.{are_in_order}
use Rattle.tsc_striped.specs.Looks.{look_over, floor_over}

-- A mark of an entry is at most what a lookup of a span that it overlaps answers, in the ratchet
-- order, whichever stripes the two touch.
abbrev pub KeptUp : Type 0
KeptUp = (terms : Terms) (h : History) (e : Entry) (m : Mark) (s : SpanView)
    → are_in_order terms.bounds ≡ true → Contains h e → Contains e.marks m
    → overlaps m.span s ≡ true → IsAtMost m.value (look_over terms h s)

-- as a history goes on, no answer sinks, and the floor of no stripe does
pub record Rising : Type 0 where
  pub answers : (terms : Terms) (start h : History) (s : SpanView) → BeginsWith h start
      → IsAtMost (look_over terms start s) (look_over terms h s)
  pub floors : (terms : Terms) (start h : History) (stripe : ℕ) → BeginsWith h start
      → is_before (state_on terms stripe h).floor (state_on terms stripe start).floor ≡ false

-- The floor of a stripe stands where it did at first, or it is older than the retention at the
-- moment of some entry that lies on that stripe.
abbrev pub FloorBehind : Type 0
FloorBehind = (terms : Terms) (h : History) (stripe : ℕ)
    → ((state_on terms stripe h).floor ≡ terms.config.low_water)
    ⊎ ((e : Entry) × (limit : Time) × Contains h e
    × (marks_in terms.bounds stripe e.marks ≢ [])
    × (time_minus e.now terms.config.retention ≡ Some limit)
    × (is_before (state_on terms stripe h).floor limit ≡ true))

-- A lookup answers what the greatest floor of the stripes that it touches, and all marks of entries
-- on the span, come to together. The marks are those that were added, whole, kept or not.
abbrev pub Real : Type 0
Real = (terms : Terms) (h : History) (s : SpanView) → are_in_order terms.bounds ≡ true
    → look_over terms h s ≡ joint_above (floor_over terms h s) (marks_on s h)

-- A write that is clear of what a lookup of its span answers is clear of each read of the history
-- that overlaps the span, whichever stripes the two touch.
abbrev pub NoWriteBelowARead : Type 0
NoWriteBelowARead = (terms : Terms) (h : History) (s : SpanView) (writer : Owner) (time : Time)
    → are_in_order terms.bounds ≡ true → IsClearOf (look_over terms h s) writer time
    → (e : Entry) (m : Mark) → Contains h e → Contains e.marks m → overlaps m.span s ≡ true
    → IsClearOf m.value writer time

-- Without bounds there is one stripe, and a history leaves the state there that it leaves in a
-- cache by itself.
abbrev pub OneStripe : Type 0
OneStripe = (config : ConfigView) (seats : ℕ) (h : History) → IsLegal config seats h
    → state_on (record { config = config; seats = seats; bounds = [] }) 0 h ≡ state_of config h
