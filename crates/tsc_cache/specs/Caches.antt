-- A cache as the definitions have it, and a cache as it can be seen.
use Rattle.std.specs.Prelude.{ℕ, List}
use Rattle.tsc_time.specs.Time.{Time}
use Rattle.tsc_page_model.specs.Page.{PageMarks}
use Rattle.tsc_page_model.specs.PageView.{PageView}
use Rattle.tsc_cache.specs.ConfigView.{ConfigView}

-- the floor, the pages from newest to oldest, and how often they rotated
pub record CacheState : Type 0 where
  pub floor : Time
  pub pages : List PageMarks
  pub rotations : ℕ

-- How a cache is set up, its floor, what can be seen of its pages from newest to oldest, and how
-- often they rotated.
pub record CacheView : Type 0 where
  pub config : ConfigView
  pub floor : Time
  pub pages : List PageView
  pub rotations : ℕ
