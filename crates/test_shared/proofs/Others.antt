-- What holds of each element of a list, and of each seat of a new cache.
use Rattle.std.proofs.Common.{◌≡◌, ℕ, zero, suc, ◌<◌, List, ◌∷◌, length, slice_index_or, refl, sym, subst, arith}
use Rattle.tsc_shared.specs.Seats.{SharedView, SeatView, new_seats}

-- what holds of each element holds of each but the first
pub others_too : {A : Type 0} (P : A → Type 0) (xs ys : List A) (x : A) → xs ≡ x ∷ ys →
    ((k : ℕ) (d : A) → k < length xs → P (slice_index_or xs k d)) → (k : ℕ) (d : A) →
    k < length ys → P (slice_index_or ys k d)
others_too P xs ys x parts each k d below =
    subst (λ zs. (k : ℕ) (d : _) → k < length zs → P (slice_index_or zs k d)) parts each (suc k) d
    (omega (arith, below))

new_one : (name : SharedView) (from count k : ℕ) (d : SeatView) →
    k < length (new_seats name from count) →
    (slice_index_or (new_seats name from count) k d).cache ≡ name
new_one name from zero k d below = absurd (omega (arith, below))
new_one name from (suc others) zero d below = refl
new_one name from (suc others) (suc k) d below =
    new_one name (suc from) others k d (omega (arith, below))

-- each seat of a new cache is of that cache
pub each_is_of : (name : SharedView) (count : ℕ) (seats : List SeatView) →
    seats ≡ new_seats name 0 count → (k : ℕ) (d : SeatView) → k < length seats →
    (slice_index_or seats k d).cache ≡ name
each_is_of name count seats are = subst (λ ss. (k : ℕ) (d : SeatView) → k < length ss →
    (slice_index_or ss k d).cache ≡ name) (sym are) (new_one name 0 count)
