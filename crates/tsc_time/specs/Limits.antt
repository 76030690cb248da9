-- The limits of a timestamp, as numbers.
use Rattle.std.specs.Prelude.{ℕ, ◌^◌}

-- what a wall time stays below, in nanoseconds
abbrev pub wall_limit : ℕ
wall_limit = 2 ^ 63

-- what a logical count stays below
abbrev pub logical_limit : ℕ
logical_limit = 2 ^ 31
