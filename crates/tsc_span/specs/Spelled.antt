-- Numbers that the first bytes of a text spell.
use Rattle.std.specs.Prelude.{ℕ, zero, suc, ◌+◌, ◌*◌, [], ◌∷◌}
use Rattle.tsc_span.specs.Span.{KeyBytes}

-- The number that the first bytes of a text spell behind another number, the greatest byte first.
-- Zeros stand for the bytes that a short text lacks.
abbrev pub spelled : ℕ → ℕ → KeyBytes → ℕ
spelled zero n k = n
spelled (suc more) n [] = spelled more (n * 256) []
spelled (suc more) n (b ∷ k) = spelled more (n * 256 + b) k
