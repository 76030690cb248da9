-- What can be counted of a cache.
use Rattle.std.specs.Prelude.{ℕ, ◌^◌, ◌-◌, min, List, length}
use Rattle.std.specs.List.{sum_by}
use Rattle.tsc_time.specs.Time.{Time}
use Rattle.tsc_page_model.specs.Page.{PageMarks, marked_keys, count_distinct, cost_distinct}
use Rattle.tsc_page_model.specs.PageView.{PageView, bytes_of}
use Rattle.tsc_cache.specs.declared.figures.Figures.{Figures}
use Rattle.tsc_cache.specs.State.{CacheState}
use Rattle.tsc_cache.specs.CacheView.{CacheView}

-- a number, or the greatest of 64 bits where it is greater than that
abbrev pub up_to_end : ℕ → ℕ
up_to_end n = min n (2 ^ 64 - 1)

-- how many different end keys each of some pages has, together
abbrev pub nodes_on : List PageMarks → ℕ
nodes_on pages = sum_by (λ p. count_distinct (marked_keys p.marks)) pages

-- what the different end keys of each page cost, added up
abbrev pub bytes_on : List PageMarks → ℕ
bytes_on pages = sum_by (λ p. cost_distinct (marked_keys p.marks)) pages

-- The figures of a state: how many pages there are and how often they rotated, their different end
-- keys, page by page, with what these cost, and the floor.
abbrev pub figures_of : CacheState → Figures
figures_of s = record {
  pages = length s.pages;
  rotations = s.rotations;
  nodes = up_to_end (nodes_on s.pages);
  bytes = up_to_end (bytes_on s.pages);
  floor = s.floor;
}

-- how many end keys the pages have as they can be seen
abbrev pub nodes_seen : List PageView → ℕ
nodes_seen pages = sum_by (λ p. count_distinct p.keys) pages

-- what the different end keys of each page cost, as it can be seen
abbrev pub bytes_seen : List PageView → ℕ
bytes_seen pages = sum_by bytes_of pages

-- the figures of some pages as they can be seen, with a floor and a number of rotations
abbrev pub figures_with : Time → ℕ → List PageView → Figures
figures_with floor rotations pages =
    record {
      pages = length pages;
      rotations = rotations;
      nodes = up_to_end (nodes_seen pages);
      bytes = up_to_end (bytes_seen pages);
      floor = floor;
    }

-- the figures of a cache, by what can be seen of it
abbrev pub figures_seen : CacheView → Figures
figures_seen v = figures_with v.floor v.rotations v.pages
