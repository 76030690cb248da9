-- The limit of a key, as a number.
use Rattle.std.specs.Prelude.{ℕ}

-- how many bytes a key has at the most
abbrev pub longest_key : ℕ
longest_key = 4096
