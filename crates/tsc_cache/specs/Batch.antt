-- Several marks that are added at one moment, all of them or none: which of them fit, whether any
-- is kept, and what they make of all that can be seen of a cache.
use Rattle.std.specs.Prelude.{◌≡◌, ◌<◌, ℕ, List, [], ◌∷◌, length, take, Bool, true, false, ◌||◌, ◌&&◌}
use Rattle.tsc_time.specs.Time.{Time}
use Rattle.tsc_page_model.specs.Page.{Mark}
use Rattle.tsc_cache.specs.declared.added.Added.{Added}
use Rattle.tsc_cache.specs.ConfigView.{ConfigView, fits}
use Rattle.tsc_cache.specs.State.{is_kept, not_kept, added_with}
use Rattle.tsc_cache.specs.CacheView.{CacheView, Adds}

-- whether the span of each of some marks fits the largest page
abbrev pub all_fit : ConfigView → List Mark → Bool
all_fit config [] = true
all_fit config (m ∷ ms) = fits config m.span && all_fit config ms

-- whether some mark is kept above a floor
abbrev pub is_any_kept : Time → List Mark → Bool
is_any_kept floor [] = false
is_any_kept floor (m ∷ ms) = is_kept floor m || is_any_kept floor ms

-- What Adds of several marks, one after another, make of all that can be seen of a cache, and what
-- they answer together.
abbrev pub AddsAll : CacheView → CacheView → List Mark → Time → Added → Type 0
AddsAll old new [] now added = (new ≡ old) × (added ≡ not_kept)
AddsAll old new (m ∷ ms) now added =
    (middle : CacheView) × (first : Added) × (others : Added)
    × Adds old middle m now first × AddsAll middle new ms now others ×
    (added ≡ added_with first others)

-- What is left where one of several marks was refused: a number of them were added, from the first
-- on, and not all.
abbrev pub AddsSome : CacheView → CacheView → List Mark → Time → Type 0
AddsSome old new ms now = (count : ℕ) × (added : Added) × (count < length ms) ×
    AddsAll old new (take count ms) now added
