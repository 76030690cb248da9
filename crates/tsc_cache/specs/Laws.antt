-- What follows from the definitions, for every configuration, history and span.
use Rattle.std.specs.Prelude.{◌≡◌, ◌⊎◌, ℕ, ◌≤◌, ◌<◌, List, [], ◌∷◌, ◌++◌, map, reverse, length, Contains, true, false, Some}
use Rattle.tsc_time.specs.Time.{Time, is_before, time_minus}
use Rattle.tsc_time.specs.ValueView.{Owner, ValueView}
use Rattle.tsc_time.specs.Joint.{joint_above, IsAtMost}
use Rattle.tsc_span.specs.Span.{SpanView, overlaps}
use Rattle.tsc_page_model.specs.Limits.{least_size, most_size}
use Rattle.tsc_page_model.specs.Page.{Mark, PageMarks, top}
use Rattle.tsc_cache.specs.ConfigView.{ConfigView}
use Rattle.tsc_cache.specs.declared.added.Added.{Added}
use Rattle.tsc_cache.specs.State.{CacheState, look, added_with, step, step_all}
use Rattle.tsc_cache.specs.Rotation.{doubled, next_size, evict, highest, Evicts}
use Rattle.tsc_cache.specs.CacheView.{CacheView, StandsAfter, StandsAfterAll, ReportsAdded, ReportsAddedAll, Adds}
use Rattle.tsc_cache.specs.Batch.{AddsAll}
use Rattle.tsc_cache.specs.History.{Entry, History, state_of, marks_on, BeginsWith, IsLegal}

-- A mark of an entry is at most what a lookup of a span that it overlaps answers, in the ratchet
-- order, whether its page is still there or not.
abbrev pub KeptUp : Type 0
KeptUp = (config : ConfigView) (h : History) (e : Entry) (m : Mark) (s : SpanView) → Contains h e →
    Contains e.marks m → overlaps m.span s ≡ true
    → IsAtMost m.value (look (state_of config h) s)

-- as a history goes on, no answer sinks, and the floor doesn't either
pub record Rising : Type 0 where
  pub answers : (config : ConfigView) (start h : History) (s : SpanView) → BeginsWith h start →
      IsAtMost (look (state_of config start) s) (look (state_of config h) s)
  pub floors : (config : ConfigView) (start h : History) → BeginsWith h start →
      is_before (state_of config h).floor (state_of config start).floor ≡ false

-- What a history begins with: itself, and all that a beginning of it begins with. A beginning has
-- no entry that the whole has not, and is legal where the whole is.
pub record Beginnings : Type 0 where
  pub itself : (h : History) → BeginsWith h h
  pub onward : (h middle start : History) → BeginsWith h middle → BeginsWith middle start →
      BeginsWith h start
  pub entries : (h start : History) (e : Entry) → BeginsWith h start → Contains start e →
      Contains h e
  pub legal : (config : ConfigView) (seats : ℕ) (h start : History) → BeginsWith h start →
      IsLegal config seats h → IsLegal config seats start

-- The floor stands where it did at first, or it is older than the retention at the moment of some
-- entry.
abbrev pub FloorBehind : Type 0
FloorBehind = (config : ConfigView) (h : History) →
    ((state_of config h).floor ≡ config.low_water)
    ⊎ ((e : Entry) × (limit : Time) × Contains h e ×
    (time_minus e.now config.retention ≡ Some limit) ×
    (is_before (state_of config h).floor limit ≡ true))

-- A lookup answers what the floor and all marks of entries on the span come to together, kept or
-- not, dropped or not.
abbrev pub Real : Type 0
Real = (config : ConfigView) (h : History) (s : SpanView) →
    look (state_of config h) s ≡ joint_above (state_of config h).floor (marks_on s h)

-- A write of a transaction is clear of a read where the write is later, or where both times are
-- equal and the read is the transaction's own.
abbrev pub IsClearOf : ValueView → Owner → Time → Type 0
IsClearOf read writer time = (is_before read.time time ≡ true) ⊎
    ((read.time ≡ time) × (read.owner ≡ Some writer))

-- A write that is clear of what a lookup of its span answers is clear of each read of the history
-- that overlaps the span.
abbrev pub NoWriteBelowARead : Type 0
NoWriteBelowARead = (config : ConfigView) (h : History) (s : SpanView) (writer : Owner)
    (time : Time) → IsClearOf (look (state_of config h) s) writer time
    → (e : Entry) (m : Mark) → Contains h e → Contains e.marks m → overlaps m.span s ≡ true →
    IsClearOf m.value writer time

-- An eviction parts the pages into those that stay and those that it drops, and lifts the floor to
-- the latest of itself and of their tops.
pub record PartsPages (config : ConfigView) (now floor : Time) (pages : List PageMarks) : Type
    0 where
  pub stay : List PageMarks
  pub dropped : List PageMarks
  pub parts : pages ≡ stay ++ dropped
  pub evicts : Evicts config now (map top stay) (map top dropped)
  pub kept : reverse (evict config now floor (reverse pages)).pages ≡ stay
  pub evicted : (evict config now floor (reverse pages)).evicted ≡ length dropped
  pub raised : (evict config now floor (reverse pages)).floor ≡ highest floor (map top dropped)

-- Whatever the settings, the moment, the floor and the pages are, an eviction parts the pages.
abbrev pub EvictsExpired : Type 0
EvictsExpired = (config : ConfigView) (now floor : Time) (pages : List PageMarks) →
    PartsPages config now floor pages

-- An Add of a list of one mark is the Add of that mark.
abbrev pub OneMarkIsAStep : Type 0
OneMarkIsAStep = (config : ConfigView) (s : CacheState) (m : Mark) (now : Time) →
    step_all config s (m ∷ []) now ≡ step config s m now

-- What an Add makes of all that can be seen of a cache is a step of each state that the cache stood
-- for: it stands for the next one, and the answer is that of the step. So it is with several marks.
pub record AddsAreSteps : Type 0 where
  pub stands : (old new : CacheView) (m : Mark) (now : Time) (added : Added) →
      Adds old new m now added → StandsAfter old new m now
  pub answers : (old new : CacheView) (m : Mark) (now : Time) (added : Added) →
      Adds old new m now added → ReportsAdded old m now added
  pub all_stand : (old new : CacheView) (ms : List Mark) (now : Time) (added : Added) →
      AddsAll old new ms now added → StandsAfterAll old new ms now
  pub all_answer : (old new : CacheView) (ms : List Mark) (now : Time) (added : Added) →
      AddsAll old new ms now added → ReportsAddedAll old ms now added

-- Adding a list of one mark makes of all that can be seen of a cache what an Add of that mark
-- makes.
abbrev pub OneMarkIsAnAdd : Type 0
OneMarkIsAnAdd = (old new : CacheView) (m : Mark) (now : Time) (added : Added) →
    AddsAll old new (m ∷ []) now added → Adds old new m now added

-- Two lists of marks that are added at one moment, one behind the other, leave what their joined
-- list leaves, and answer together what that one answers.
abbrev pub ListsJoin : Type 0
ListsJoin = (config : ConfigView) (s : CacheState) (ms ns : List Mark) (now : Time) →
    (let first = step_all config s ms now in let second = step_all config first.state ns now in
    step_all config s (ms ++ ns) now ≡
    record { state = second.state; added = added_with first.added second.added })

-- The size of a page for a cost behind a page of some size. That size, doubled `times` times and no
-- more than the most, is at least the cost. Doubled less often it is not.
pub record IsFirstDoubled (most size cost next : ℕ) : Type 0 where
  pub times : ℕ
  pub some : 1 ≤ times
  pub is : next ≡ doubled most size times
  pub enough : cost ≤ next
  pub before : (fewer : ℕ) → 1 ≤ fewer → fewer < times → doubled most size fewer < cost

-- A new page has the first doubled size, whatever the sizes are, where the cost is no more than the
-- most.
abbrev pub SizesDouble : Type 0
SizesDouble = (most size cost : ℕ) → least_size ≤ size → most ≤ most_size → cost ≤ most →
    IsFirstDoubled most size cost (next_size most size cost)
