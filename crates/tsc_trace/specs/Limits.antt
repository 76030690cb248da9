-- The limit of a log, as a number.
use Rattle.std.specs.Prelude.{ℕ}

-- how many lines a log has at the most
abbrev pub most_lines : ℕ
most_lines = 65536
