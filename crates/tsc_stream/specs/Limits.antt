-- The limits of readers and writers, as numbers.
use Rattle.std.specs.Prelude.{ℕ}

-- how many bytes an input has at the most
abbrev pub longest_input : ℕ
longest_input = 16777216

-- how many times a command reads, and how many times it writes, before it gives up
abbrev pub most_turns : ℕ
most_turns = 33554432
