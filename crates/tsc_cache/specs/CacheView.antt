-- What can be seen of a cache, which state it stands for, and what an Add makes of it.
use Rattle.std.specs.Prelude.{◌≡◌, ℕ, List, [], ◌∷◌, map, Bool, true, false, ◌&&◌, not, Option, Some, None}
use Rattle.tsc_time.specs.Time.{Time, zero_time, later}
use Rattle.tsc_time.specs.ValueView.{ValueView}
use Rattle.tsc_time.specs.Joint.{joint_above}
use Rattle.tsc_span.specs.Span.{SpanView}
use Rattle.tsc_page_model.specs.Page.{Mark, PageMarks}
use Rattle.tsc_page_model.specs.PageView.{PageView, Represents, HasKeysWith, AnswersWith, answer, has_room_for}
use Rattle.tsc_cache.specs.declared.added.Added.{Added}
use Rattle.tsc_cache.specs.ConfigView.{ConfigView}
use Rattle.tsc_cache.specs.State.{CacheState, step, step_all, is_kept, not_kept, kept_without_rotation, kept_after_rotation}
use Rattle.tsc_cache.specs.Rotation.{RotatesWith}
use Rattle.tsc_cache.specs.Lookup.{LooksInto}
pub use Rattle.tsc_cache.specs.Caches.{CacheView}

-- each page stands for the one at its place
abbrev pub EachRepresents : List PageView → List PageMarks → Type 0
EachRepresents [] [] = Unit {0}
EachRepresents [] (p ∷ ps) = ⊥
EachRepresents (v ∷ vs) [] = ⊥
EachRepresents (v ∷ vs) (p ∷ ps) = Represents v p × EachRepresents vs ps

-- A cache stands for a state under some settings where it has these settings, and its floor and its
-- count of rotations are those of the state. It has as many pages as the state, and each stands for
-- the state's page at its place.
pub record RepresentsState (v : CacheView) (config : ConfigView) (s : CacheState) : Type 0 where
  pub set_up : v.config ≡ config
  pub floor : v.floor ≡ s.floor
  pub pages : EachRepresents v.pages s.pages
  pub rotations : v.rotations ≡ s.rotations

-- Whatever state a cache stood for before an Add, it now stands for that state after the Add.
abbrev pub StandsAfter : CacheView → CacheView → Mark → Time → Type 0
StandsAfter old new m now = (config : ConfigView) (s : CacheState) →
    RepresentsState old config s →
    RepresentsState new config (step config s m now).state

-- an Add did what it tells, whatever state the cache stood for before it
abbrev pub ReportsAdded : CacheView → Mark → Time → Added → Type 0
ReportsAdded old m now added = (config : ConfigView) (s : CacheState) →
    RepresentsState old config s → added ≡ (step config s m now).added

-- Whatever state a cache stood for before, it now stands for that state after the Adds of several
-- marks, one after another at one moment.
abbrev pub StandsAfterAll : CacheView → CacheView → List Mark → Time → Type 0
StandsAfterAll old new ms now = (config : ConfigView) (s : CacheState) →
    RepresentsState old config s → RepresentsState new config (step_all config s ms now).state

-- what several marks did together is what the states say
abbrev pub ReportsAddedAll : CacheView → List Mark → Time → Added → Type 0
ReportsAddedAll old ms now added = (config : ConfigView) (s : CacheState) →
    RepresentsState old config s → added ≡ (step_all config s ms now).added

-- what a cache answers to a span: what its floor and the answer of each page come to together
abbrev pub cache_answer : CacheView → SpanView → ValueView
cache_answer v span = joint_above v.floor (map (λ p. answer p span) v.pages)

-- whether there is a front page with room for a span
abbrev pub front_has_room_for : List PageView → SpanView → Bool
front_has_room_for [] span = false
front_has_room_for (front ∷ older) span = has_room_for front span

-- what can be seen of a page after one more mark
pub record IsMarked (old new : PageView) (m : Mark) : Type 0 where
  pub size : new.size ≡ old.size
  pub top : new.top ≡ later old.top m.value.time
  pub keys : HasKeysWith old new m.span
  pub answers : AnswersWith old new m.span m.value

-- the front page has one more mark, and the older ones are as before
abbrev pub MarksFront : List PageView → List PageView → Mark → Type 0
MarksFront [] new m = ⊥
MarksFront (front ∷ older) [] m = ⊥
MarksFront (front ∷ older) (marked ∷ others) m = IsMarked front marked m × (others ≡ older)

-- What an Add makes of all that can be seen of a cache, and what it answers.
pub record Adds (old new : CacheView) (m : Mark) (now : Time) (added : Added) : Type 0 where
  pub config : new.config ≡ old.config
  pub not_kept : is_kept old.floor m ≡ false → (new ≡ old) × (added ≡ not_kept)
  pub in_place : is_kept old.floor m ≡ true → front_has_room_for old.pages m.span ≡ true
      → MarksFront old.pages new.pages m × (new.floor ≡ old.floor) ×
      (new.rotations ≡ old.rotations) × (added ≡ kept_without_rotation)
  pub rotated : is_kept old.floor m ≡ true → front_has_room_for old.pages m.span ≡ false
      → RotatesWith old new m now added.evicted × (added ≡ kept_after_rotation added.evicted)

-- whether an Add of a mark would rotate the pages: it is kept, and the front page has no room for
-- it
abbrev pub would_rotate : CacheView → Mark → Bool
would_rotate v m = is_kept v.floor m && not (front_has_room_for v.pages m.span)

-- What an Add that never rotates makes of all that can be seen of a cache: where the pages would
-- rotate nothing changes, and else what any Add makes, whatever the moment.
abbrev pub AddsWithoutRotation : CacheView → CacheView → Mark → Option Added → Type 0
AddsWithoutRotation old new m None = (would_rotate old m ≡ true) × (new ≡ old)
AddsWithoutRotation old new m (Some added) = (would_rotate old m ≡ false) ×
    ((now : Time) → Adds old new m now added)

-- the latest time that some pages answer to a span
abbrev pub latest_answer : SpanView → List PageView → Time
latest_answer span pages = (joint_above zero_time (map (λ p. answer p span) pages)).time

-- how many pages a lookup looks into, by what can be seen of them
abbrev pub LooksIntoViews : SpanView → List PageView → ℕ → Type 0
LooksIntoViews span pages count = LooksInto (λ p. p.top) (latest_answer span) pages count
