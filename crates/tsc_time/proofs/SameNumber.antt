-- Two lists of sixteen bytes that come to one number are the same.
use Rattle.std.proofs.Common.{arith, nat_eq, ◌≡◌, ◌<◌, ◌+◌, ◌*◌, ℕ, suc, List, [], ◌∷◌, ◌∙◌, refl, sym, ap}
use Rattle.std.specs.Prelude.{length, All}
use Rattle.std.specs.Cmp.{both_ways}
use Rattle.std.specs.Int.{w128, from_be_bytes}
use Rattle.std.specs.Str.{bytes_eq}
use Rattle.std.proofs.lemmas.Bool.Decides.{Decides-eqb}
use Rattle.std.proofs.lemmas.Slice.Eq.{bytes_eq-Decides}

-- the number of some bytes behind those that come to n
after : ℕ → List ℕ → ℕ
after n [] = n
after n (b ∷ ys) = after (n * 256 + b) ys

worth : (ys : List ℕ) → length ys ≡ 16 → from_be_bytes w128 ys ≡ after 0 ys
unfolding after
worth (a ∷ b ∷ c ∷ d ∷ e ∷ f ∷ g ∷ h ∷ i ∷ j ∷ k ∷ l ∷ m ∷ n ∷ o ∷ p ∷ []) len = omega arith
worth ys len = absurd (omega (arith, len))

same_step : (m n a b : ℕ) → a < 256 → b < 256 → m * 256 + a ≡ n * 256 + b → (m ≡ n) × (a ≡ b)
same_step m n a b p q is = (omega arith, omega arith)

same_digits : (m n : ℕ) (xs ys : List ℕ) → length xs ≡ length ys → All (λ b. b < 256) xs →
    All (λ b. b < 256) ys → after m xs ≡ after n ys → (m ≡ n) × (xs ≡ ys)
unfolding after
same_digits m n [] [] len p q is = (is, refl)
same_digits m n [] (b ∷ ys) len p q is = absurd (omega (arith, len))
same_digits m n (a ∷ xs) [] len p q is = absurd (omega (arith, len))
same_digits m n (a ∷ xs) (b ∷ ys) len p q is =
    let rest = same_digits (m * 256 + a) (n * 256 + b) xs ys (omega (arith, len))
    (λ k d below. p (suc k) d (omega (arith, below)))
    (λ k d below. q (suc k) d (omega (arith, below))) is in
    let here = same_step m n a b (p 0 0 (omega arith)) (q 0 0 (omega arith)) rest.0 in
    (here.0, λ i. here.1 i ∷ rest.1 i)

-- so one comparison of numbers tells whether they are
pub is_same_number : (xs ys : List ℕ) (m n : ℕ) → length xs ≡ 16 → length ys ≡ 16 →
    All (λ b. b < 256) xs → All (λ b. b < 256) ys
    → m ≡ from_be_bytes w128 xs → n ≡ from_be_bytes w128 ys → nat_eq m n ≡ bytes_eq xs ys
is_same_number xs ys m n la lb p q is_m is_n =
    both_ways (nat_eq m n) (bytes_eq xs ys)
    (λ e. let one : after 0 xs ≡ after 0 ys = sym (worth xs la) ∙ sym is_m ∙ (Decides-eqb m n).0 e ∙
    is_n ∙ worth ys lb in
    (bytes_eq-Decides xs ys).1 (same_digits 0 0 xs ys (la ∙ sym lb) p q one).1)
    (λ e. let same : xs ≡ ys = (bytes_eq-Decides xs ys).0 e in
    (Decides-eqb m n).1 (is_m ∙ ap (from_be_bytes w128) same ∙ sym is_n))
