-- Sixteen bytes as one number.
use Rattle.std.proofs.Common.{arith, nat_eq, ◌≡◌, ℕ, List, [], ◌∷◌, ◌∙◌, sym, ap}
use Rattle.std.specs.Prelude.{length}
use Rattle.std.specs.Cmp.{both_ways}
use Rattle.std.specs.Int.{w128, from_be_bytes}
use Rattle.std.proofs.lemmas.Bool.Decides.{Decides-eqb}
use Rattle.std.proofs.lemmas.Slice.Eq.{bytes_eq-Decides}
use Rattle.uuid.specs.Parts.{is_nil_bytes, zero_bytes}

-- they come to zero just where each of them is zero
pub zero_number : (bs : List ℕ) → length bs ≡ 16 → from_be_bytes w128 bs ≡ 0 → bs ≡ zero_bytes
zero_number (a ∷ b ∷ c ∷ d ∷ e ∷ f ∷ g ∷ h ∷ i ∷ j ∷ k ∷ l ∷ m ∷ n ∷ o ∷ p ∷ []) len is =
    let za : a ≡ 0 = omega (arith, is) in
    let zb : b ≡ 0 = omega (arith, is) in
    let zc : c ≡ 0 = omega (arith, is) in
    let zd : d ≡ 0 = omega (arith, is) in
    let ze : e ≡ 0 = omega (arith, is) in
    let zf : f ≡ 0 = omega (arith, is) in
    let zg : g ≡ 0 = omega (arith, is) in
    let zh : h ≡ 0 = omega (arith, is) in
    let zi : i ≡ 0 = omega (arith, is) in
    let zj : j ≡ 0 = omega (arith, is) in
    let zk : k ≡ 0 = omega (arith, is) in
    let zl : l ≡ 0 = omega (arith, is) in
    let zm : m ≡ 0 = omega (arith, is) in
    let zn : n ≡ 0 = omega (arith, is) in
    let zo : o ≡ 0 = omega (arith, is) in
    let zp : p ≡ 0 = omega (arith, is) in
    cc
zero_number bs len is = absurd (omega (arith, len))

-- so one comparison tells whether they are the nil UUID
pub is_zero_number : (bs : List ℕ) (n : ℕ) → length bs ≡ 16 → n ≡ from_be_bytes w128 bs →
    nat_eq n 0 ≡ is_nil_bytes bs
is_zero_number bs n len is =
    both_ways (nat_eq n 0) (is_nil_bytes bs)
    (λ e. (bytes_eq-Decides bs zero_bytes).1 (zero_number bs len (sym is ∙ (Decides-eqb n 0).0 e)))
    (λ e. let zeros : bs ≡ zero_bytes = (bytes_eq-Decides bs zero_bytes).0 e in
    let none : n ≡ 0 = is ∙ ap (from_be_bytes w128) zeros in
    (Decides-eqb n 0).1 none)
