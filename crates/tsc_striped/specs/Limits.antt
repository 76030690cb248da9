-- The limits of this crate, as numbers. The code's constants owe that they are these.
use Rattle.std.specs.Prelude.{ℕ}

-- how many stripes a cache may have at the most
abbrev pub most_stripes : ℕ
most_stripes = 1024

-- the least size of the largest page: two of the longest keys fit it
abbrev pub least_page_max : ℕ
least_page_max = 8256

-- how many Adds a seat may count at the most
abbrev pub most_adds : ℕ
most_adds = 18446744073709551615
