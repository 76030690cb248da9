-- The limits of a page's size, as numbers.
use Rattle.std.specs.Prelude.{ℕ}

-- how many bytes a page may have at the least
abbrev pub least_size : ℕ
least_size = 64

-- how many bytes a page may have at the most, which is 2^30
abbrev pub most_size : ℕ
most_size = 1073741824
