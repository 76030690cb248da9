-- What is true of the pages of a cache, as they can be seen, and what is done to them. Public
-- contracts cite none of it.
use Rattle.std.specs.Prelude.{◌≡◌, ℕ, List, [], ◌∷◌, ◌++◌, map, length, true, false, Option, Some, None}
use Rattle.tsc_time.specs.Time.{Time, zero_time, is_before}
use Rattle.tsc_time.specs.ValueView.{ValueView}
use Rattle.tsc_time.specs.Joint.{joint_above}
use Rattle.tsc_span.specs.Span.{SpanView}
use Rattle.tsc_page_model.specs.PageView.{PageView, NoAnswerAboveTop, answer}
use Rattle.tsc_cache.specs.ConfigView.{ConfigView}
use Rattle.tsc_cache.specs.Rotation.{drops_oldest, highest, OldestStays, Evicts}

-- what some pages answer to a span together, above time zero
abbrev pub pages_answer : List PageView → SpanView → ValueView
pages_answer pages span = joint_above zero_time (map (λ p. answer p span) pages)

-- no page has a top above a time
abbrev pub HaveTopsUpTo : Time → List PageView → Type 0
HaveTopsUpTo t [] = Unit {0}
HaveTopsUpTo t (p ∷ ps) = (is_before t p.top ≡ false) × HaveTopsUpTo t ps

-- no answer of a page is later than its top, and no older page has a later top
abbrev pub AreStacked : List PageView → Type 0
AreStacked [] = Unit {0}
AreStacked (p ∷ ps) = NoAnswerAboveTop p × HaveTopsUpTo p.top ps × AreStacked ps

-- the top of the oldest page, where that page goes
abbrev pub IsDroppedTop : ConfigView → Time → List PageView → Option Time → Type 0
IsDroppedTop config now pages None = OldestStays config now (map (λ p. p.top) pages)
IsDroppedTop config now pages (Some t) =
    (newer : List PageView) × (oldest : PageView) × (pages ≡ newer ++ oldest ∷ []) ×
    (oldest.top ≡ t) × (drops_oldest config (length newer) t now ≡ true)

-- an eviction leaves some of the pages, gives the floor, and says how many it dropped
pub record Drops (config : ConfigView) (floor now : Time) (old new : List PageView) (raised : Time)
    (evicted : ℕ) : Type 0 where
  pub dropped : List PageView
  pub parts : old ≡ new ++ dropped
  pub evicts : Evicts config now (map (λ p. p.top) new) (map (λ p. p.top) dropped)
  pub floor_is : raised ≡ highest floor (map (λ p. p.top) dropped)
  pub count : evicted ≡ length dropped
