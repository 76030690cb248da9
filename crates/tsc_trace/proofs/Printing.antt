-- The room that a line's text takes.
use Rattle.std.proofs.Common.{◌≡◌, ℕ, ◌-◌, ◌<◌, ◌≤◌, ◌^◌, List, length, drop, decimal, sym, ap, ◌∙◌, arith}
use Rattle.std.proofs.lemmas.Fmt.{length-decimal-le}
use Rattle.std.proofs.lemmas.List.{length-drop}

-- a number of 64 bits has twenty digits at the most
pub number_length : (n : ℕ) → n < 2 ^ 64 → length (decimal n) ≤ 20
number_length n small = length-decimal-le 20 n (omega arith) (omega arith) small

-- how long the end of some bytes is
pub end_length : (bytes text : List ℕ) (start : ℕ) → drop start bytes ≡ text →
    length text ≡ length bytes - start
end_length bytes text start here = sym (ap length here) ∙ length-drop start bytes
