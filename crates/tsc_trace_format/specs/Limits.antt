-- The limits of a trace, as numbers.
use Rattle.std.specs.Prelude.{ℕ}

-- how many lists a trace has at the most
abbrev pub most_lists : ℕ
most_lists = 64

-- how many calls a trace may have, over all its lists
abbrev pub most_calls : ℕ
most_calls = 65536

-- how many marks a batch has at the most
abbrev pub most_marks : ℕ
most_marks = 1024
