-- The cache as a floor and a list of pages: `intervalSkl` of CockroachDB's pkg/kv/kvserver/tscache.
-- How its pages rotate stands in `Rotation`.
use Rattle.std.specs.Prelude.{ℕ, ◌+◌, ◌&&◌, ◌||◌, List, [], ◌∷◌, not, Bool, true, false, if◌then◌else◌}
use Rattle.std.specs.List.{flat_map}
use Rattle.tsc_time.specs.Time.{Time, zero_time, is_before}
use Rattle.tsc_time.specs.ValueView.{ValueView}
use Rattle.tsc_time.specs.Joint.{joint_above}
use Rattle.tsc_span.specs.Span.{SpanView, is_empty_span}
use Rattle.tsc_page_model.specs.Page.{Mark, PageMarks, empty_page, with_mark, values_on, has_room}
use Rattle.tsc_cache.specs.declared.added.Added.{Added}
use Rattle.tsc_cache.specs.ConfigView.{ConfigView}
use Rattle.tsc_cache.specs.Rotation.{rotate}
pub use Rattle.tsc_cache.specs.Caches.{CacheState}

-- a cache to which nothing was added: its floor stands where the settings say, above one empty page
-- of the first size from time zero on
abbrev pub opening : ConfigView → CacheState
opening config = record {
  floor = config.low_water;
  pages = empty_page config.page_first zero_time ∷ [];
  rotations = 0;
}

-- whether there is a front page with room for a span
abbrev pub front_has_room : CacheState → SpanView → Bool
front_has_room s span = room_of s.pages
  where
    room_of : List PageMarks → Bool
    room_of [] = false
    room_of (front ∷ older) = has_room front span

-- the pages with one more mark on the front page
abbrev pub on_front : List PageMarks → Mark → List PageMarks
on_front [] m = []
on_front (front ∷ older) m = with_mark front m ∷ older

-- the state with one more mark on its front page
abbrev pub marked : CacheState → Mark → CacheState
marked s m = record { floor = s.floor; pages = on_front s.pages m; rotations = s.rotations }

-- An Add is kept where its span is not empty and its time is above the floor.
abbrev pub is_kept : Time → Mark → Bool
is_kept floor m = not (is_empty_span m.span) && is_before floor m.value.time

-- what an Add answers that is not kept
abbrev pub not_kept : Added
not_kept = record { kept = false; rotated = false; evicted = 0 }

-- what an Add answers that is kept without a rotation
abbrev pub kept_without_rotation : Added
kept_without_rotation = record { kept = true; rotated = false; evicted = 0 }

-- what an Add answers that is kept after a rotation
abbrev pub kept_after_rotation : ℕ → Added
kept_after_rotation evicted = record { kept = true; rotated = true; evicted = evicted }

-- what an Add leaves, and what it answers
pub record Stepped : Type 0 where
  pub state : CacheState
  pub added : Added

-- What an Add of one mark makes of a state: where it is not kept, the state stays; else there is
-- one more mark on the front page, after a rotation where that page was too full for it.
abbrev pub step : ConfigView → CacheState → Mark → Time → Stepped
step config s m now =
    if not (is_kept s.floor m) then record { state = s; added = not_kept }
    else if front_has_room s m.span then
    record { state = marked s m; added = kept_without_rotation }
    else (let turned = rotate config s m.span now
    in record { state = marked turned.state m; added = kept_after_rotation turned.evicted })

-- what an Add answers of a mark, and of those after it: kept or rotated where either did so, and
-- all that both dropped
abbrev pub added_with : Added → Added → Added
added_with first others = record {
  kept = first.kept || others.kept;
  rotated = first.rotated || others.rotated;
  evicted = first.evicted + others.evicted;
}

-- What an Add of several marks at one moment makes of a state, one mark after another.
abbrev pub step_all : ConfigView → CacheState → List Mark → Time → Stepped
step_all config s [] now = record { state = s; added = not_kept }
step_all config s (m ∷ ms) now =
    let first = step config s m now in
    let others = step_all config first.state ms now in
    record { state = others.state; added = added_with first.added others.added }

-- What a lookup answers: what the floor and each mark that overlaps the span, whichever page has
-- it, come to together.
abbrev pub look : CacheState → SpanView → ValueView
look s span = joint_above s.floor (flat_map (λ p. values_on span p.marks) s.pages)
