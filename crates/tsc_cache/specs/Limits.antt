-- The limits of a configuration, as numbers. Those of a page's size are of tsc_page_nodes.
use Rattle.std.specs.Prelude.{ℕ, ◌-◌, ◌^◌}

-- the least that `min_pages` may be
abbrev pub least_min_pages : ℕ
least_min_pages = 1

-- the most pages that `min_pages` may ask for
abbrev pub most_min_pages : ℕ
most_min_pages = 64

-- for how many nanoseconds reads may be retained at the most
abbrev pub longest_retention : ℕ
longest_retention = 2 ^ 63 - 1
