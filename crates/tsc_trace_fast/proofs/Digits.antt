-- What a hexadecimal digit stands for, by arithmetic.
use Rattle.std.proofs.Common.{◌≡◌, ℕ, ◌+◌, ◌*◌, ◌/◌, ◌%◌, ◌&&◌, Bool, true, false, Some, Ok, refl, arith}
use Rattle.hex.specs.Hex.{hex_digit_value, is_hex_digit, pair_value}

abbrev pub digit_by : ℕ → ℕ
digit_by c = (c % 16 + 9 * (c / 64)) % 16

pub digit_is : (c : ℕ) → is_hex_digit c ≡ true → hex_digit_value c ≡ Some (digit_by c)
digit_is c h = grind arith

-- what three tests that hold together say
pub three : (a b c : Bool) → (a && b) && c ≡ true → (a ≡ true) × (b ≡ true) × (c ≡ true)
three true true c h = (refl, refl, h)
three true false c h = absurd cc
three false b c h = absurd cc

-- two digits are read as their byte
pub pair_is : (high low i h l : ℕ) → hex_digit_value high ≡ Some h → hex_digit_value low ≡ Some l →
    pair_value high low i ≡ Ok (h * 16 + l)
pair_is high low i h l is_h is_l = rw (is_h, is_l) refl
