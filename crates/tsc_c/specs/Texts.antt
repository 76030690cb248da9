-- Texts that go into a buffer of a program in C, and what it is told of them.
use Rattle.std.specs.Prelude.{ℕ, List}
use Rattle.tsc_check.specs.declared.bytes.Outcome.{Outcome}
use Rattle.tsc_check.specs.declared.bytes.Outcome.TheVariants.{Text, Refused}

-- the text of what is said
abbrev pub text_of : Outcome → List ℕ
text_of (Text text) = text.items
text_of (Refused text) = text.items

-- the number by which C knows what a text is: 0, what was asked for; 16, why the bytes were refused
abbrev pub reported_of : Outcome → ℕ
reported_of (Text text) = 0
reported_of (Refused text) = 16
