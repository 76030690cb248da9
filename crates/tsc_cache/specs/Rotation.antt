-- How the pages rotate: which size a new page has, which of the oldest ones go, where the floor
-- then stands, and what comes to the front. First for the lists of marks of a state, and then for
-- what can be seen of a cache.
--
-- The code brings the new page to the front first, since that takes memory, and then drops pages
-- behind it. Here pages are dropped first. Both look at the pages that there were before, and at
-- no other.
use Rattle.std.specs.Prelude.{◌≡◌, ℕ, zero, suc, ◌+◌, ◌-◌, ◌*◌, ◌^◌, min, ◌&&◌, ◌==◌, List, [], ◌∷◌, ◌++◌, map, length, reverse, nat_le, Bool, true, false, Option, Some, None, if◌then◌else◌}
use Rattle.tsc_time.specs.Time.{Time, zero_time, time_minus, is_before, later}
use Rattle.tsc_span.specs.Span.{SpanView, span_cost}
use Rattle.tsc_page_model.specs.Page.{Mark, PageMarks, empty_page, with_mark, top}
use Rattle.tsc_page_model.specs.PageView.{PageView, Represents}
use Rattle.tsc_cache.specs.ConfigView.{ConfigView}
use Rattle.tsc_cache.specs.Caches.{CacheState, CacheView}

-- ---- the size of a new page

-- a size doubled a number of times, and no more than the most
abbrev pub doubled : ℕ → ℕ → ℕ → ℕ
doubled most size times = min most (2 ^ times * size)

-- Of a number of doublings, from one on, the first that comes to at least a cost, and the most
-- where none does.
abbrev pub first_doubled : ℕ → ℕ → ℕ → ℕ → ℕ → ℕ
first_doubled zero times most size cost = most
first_doubled (suc more) times most size cost =
    if nat_le cost (doubled most size times) then doubled most size times else first_doubled more
    (suc times) most size cost

-- The size of a page for a span of some cost behind a page of a size: the first of 32 doublings
-- that comes to at least the cost. Each doubling is no more than the most. Thirty-two doublings
-- lead from the least size beyond the greatest.
unfoldable pub next_size : ℕ → ℕ → ℕ → ℕ
next_size most size cost = first_doubled 32 1 most size cost

-- the top of the front page, or time zero without pages
abbrev pub front_top : List PageMarks → Time
front_top [] = zero_time
front_top (front ∷ older) = top front

-- the size of the front page, or none without pages
abbrev pub front_size : List PageMarks → ℕ
front_size [] = 0
front_size (front ∷ older) = front.size

-- the page that comes to the front for a span: an empty one of the next size behind the front page
-- before it, which takes its top as its base
abbrev pub new_front : ConfigView → List PageMarks → SpanView → PageMarks
new_front config pages span = empty_page
    (next_size config.page_max (front_size pages) (span_cost span)) (front_top pages)

-- ---- which pages go

-- Whether reads up to a top are past their retention: the top lies before a limit, which is the
-- moment less the retention. A top on the limit is not past it. Where the moment is less than the
-- retention, nothing is.
abbrev pub is_past_retention : ℕ → Time → Time → Bool
is_past_retention retention now top = is_before_limit (time_minus now retention)
  where
    is_before_limit : Option Time → Bool
    is_before_limit None = false
    is_before_limit (Some limit) = is_before top limit

-- The policy. Whether the oldest page goes, behind so many newer ones: with it there are at least
-- `min_pages`, and its top is past the retention.
abbrev pub drops_oldest : ConfigView → ℕ → Time → Time → Bool
drops_oldest config newer top now =
    nat_le config.min_pages (suc newer) && is_past_retention config.retention now top

-- what an eviction leaves: the floor, the pages from oldest to newest, and how many were dropped
pub record Eviction : Type 0 where
  pub floor : Time
  pub pages : List PageMarks
  pub evicted : ℕ

-- From the oldest page on: one that goes lifts the floor to its top unless that stands higher,
-- until one is met that stays.
abbrev pub evict : ConfigView → Time → Time → List PageMarks → Eviction
evict config now floor [] = record { floor = floor; pages = []; evicted = 0 }
evict config now floor (oldest ∷ newer) =
    if drops_oldest config (length newer) (top oldest) now
    then (let rest = evict config now (later floor (top oldest)) newer
    in record { floor = rest.floor; pages = rest.pages; evicted = suc rest.evicted })
    else record { floor = floor; pages = oldest ∷ newer; evicted = 0 }

-- ---- the whole of it

-- a count of 64 bits that stays at its end
abbrev pub saturating_inc : ℕ → ℕ
saturating_inc n = if n == 2 ^ 64 - 1 then n else n + 1

-- what a rotation leaves, and how many pages it dropped
pub record Rotation : Type 0 where
  pub state : CacheState
  pub evicted : ℕ

-- For a span that has no room first pages are evicted. Then a new one comes to the front, with the
-- size and the base that the front page before it gives, even where that one is gone.
abbrev pub rotate : ConfigView → CacheState → SpanView → Time → Rotation
rotate config s span now =
    let kept = evict config now s.floor (reverse s.pages) in
    record {
      state = record {
        floor = kept.floor;
        pages = new_front config s.pages span ∷
            reverse kept.pages;
        rotations = saturating_inc s.rotations;
      };
      evicted = kept.evicted;
    }

-- ---- the same, of what can be seen

-- the latest of a time and of some others
abbrev pub highest : Time → List Time → Time
highest floor [] = floor
highest floor (top ∷ tops) = later top (highest floor tops)

-- Pages that were dropped behind so many newer ones, by their tops from newest to oldest: each went
-- as the oldest of its time.
abbrev pub WereDropped : ConfigView → Time → ℕ → List Time → Type 0
WereDropped config now newer [] = Unit {0}
WereDropped config now newer (top ∷ older) =
    (drops_oldest config newer top now ≡ true) × WereDropped config now (suc newer) older

-- the oldest of some pages stays, by their tops
abbrev pub OldestStays : ConfigView → Time → List Time → Type 0
OldestStays config now tops = (newer : List Time) (oldest : Time) → tops ≡ newer ++ oldest ∷ [] →
    drops_oldest config (length newer) oldest now ≡ false

-- The pages that stay and those that are dropped, from newest to oldest, by their tops.
pub record Evicts (config : ConfigView) (now : Time) (stay dropped : List Time) : Type 0 where
  pub gone : WereDropped config now (length stay) dropped
  pub stops : OldestStays config now stay

-- the top of the front page, or time zero without pages
abbrev pub front_view_top : List PageView → Time
front_view_top [] = zero_time
front_view_top (front ∷ older) = front.top

-- the size of the front page, or none without pages
abbrev pub front_view_size : List PageView → ℕ
front_view_size [] = 0
front_view_size (front ∷ older) = front.size

-- the page that comes to the front for a mark: one of the next size behind the front page before
-- it, which takes its top as its base, with that mark on it
abbrev pub front_marked : ConfigView → List PageView → Mark → PageMarks
front_marked config pages m = with_mark
    (empty_page (next_size config.page_max (front_view_size pages) (span_cost m.span))
    (front_view_top pages)) m

-- A rotation that brings a page with one mark to the front: the pages that there were are parted
-- into those that stay and those that are dropped.
pub record RotatesWith (old new : CacheView) (m : Mark) (now : Time) (evicted : ℕ) : Type 0 where
  pub front : PageView
  pub stay : List PageView
  pub dropped : List PageView
  pub parts : old.pages ≡ stay ++ dropped
  pub evicts : Evicts old.config now (map (λ p. p.top) stay) (map (λ p. p.top) dropped)
  pub count : evicted ≡ length dropped
  pub pages : new.pages ≡ front ∷ stay
  pub marked : Represents front (front_marked old.config old.pages m)
  pub floor : new.floor ≡ highest old.floor (map (λ p. p.top) dropped)
  pub rotations : new.rotations ≡ saturating_inc old.rotations
