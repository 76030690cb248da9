-- The limit of texts, as a number.
use Rattle.std.specs.Prelude.{ℕ}

-- how many bytes a trace, or a log, has at the most
abbrev pub longest_text : ℕ
longest_text = 16777216
