-- The three words of a prefix.
use Rattle.std.specs.Prelude.{◌≡◌, ℕ, ◌<◌, ◌+◌, ◌*◌, ◌/◌, ◌%◌, ◌^◌}
use Rattle.std.proofs.Common.{◌∙◌, ap}
use Rattle.std.proofs.lemmas.Nat.{div-mul-add, mod-mul-add}

-- the words of a prefix come back by division
pub first_word : (a b c : ℕ) → b < 2 ^ 64 → c < 2 ^ 64 →
    ((a * 2 ^ 64 + b) * 2 ^ 64 + c) / 2 ^ 64 / 2 ^ 64 ≡ a
first_word a b c hb hc = ap (λ n. n / 2 ^ 64) (div-mul-add (a * 2 ^ 64 + b) (2 ^ 64) c hc) ∙
    div-mul-add a (2 ^ 64) b hb

pub second_word : (a b c : ℕ) → b < 2 ^ 64 → c < 2 ^ 64 →
    ((a * 2 ^ 64 + b) * 2 ^ 64 + c) / 2 ^ 64 % 2 ^ 64 ≡ b
second_word a b c hb hc = ap (λ n. n % 2 ^ 64) (div-mul-add (a * 2 ^ 64 + b) (2 ^ 64) c hc) ∙
    mod-mul-add a (2 ^ 64) b hb

pub third_word : (a b c : ℕ) → c < 2 ^ 64 → ((a * 2 ^ 64 + b) * 2 ^ 64 + c) % 2 ^ 64 ≡ c
third_word a b c hc = mod-mul-add (a * 2 ^ 64 + b) (2 ^ 64) c hc
