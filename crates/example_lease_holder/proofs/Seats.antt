-- The seats of a new cache are all of that cache, and a list that is made of another one by one.
use Rattle.std.proofs.Common.{◌≡◌, ◌∙◌, ap, ℕ, zero, suc, ◌<◌, List, [], ◌∷◌, ◌++◌, append_assoc, append-nil, length, slice_index_or, refl, sym, subst, arith}
use Rattle.std.specs.Prelude.{map}
use Rattle.std.proofs.lemmas.List.{map-append}
use Rattle.tsc_shared.specs.Seats.{SharedView, SeatView, new_seats}
use Rattle.tsc_shared.specs.Answers.{Opens}
use Rattle.timestamp_cache.specs.Words.{ConfigView}

-- what holds of each element holds of each but the first
pub others_too : {A : Type 0} (P : A → Type 0) (xs ys : List A) (x : A) → xs ≡ x ∷ ys →
    ((k : ℕ) (d : A) → k < length xs → P (slice_index_or xs k d)) → (k : ℕ) (d : A) →
    k < length ys → P (slice_index_or ys k d)
others_too P xs ys x parts each k d below =
    subst (λ zs. (k : ℕ) (d : _) → k < length zs → P (slice_index_or zs k d)) parts each (suc k) d
    (omega (arith, below))

-- and of the first one
pub first_one : {A : Type 0} (P : A → Type 0) (xs ys : List A) (x : A) → xs ≡ x ∷ ys →
    ((k : ℕ) (d : A) → k < length xs → P (slice_index_or xs k d)) → P x
first_one P xs ys x parts each =
    subst (λ zs. (k : ℕ) (d : _) → k < length zs → P (slice_index_or zs k d)) parts each 0 x
    (omega arith)

new_one : (cache : SharedView) (from count k : ℕ) (d : SeatView) →
    k < length (new_seats cache from count) →
    (slice_index_or (new_seats cache from count) k d).cache ≡ cache
new_one cache from zero k d below = absurd (omega (arith, below))
new_one cache from (suc others) zero d below = refl
new_one cache from (suc others) (suc k) d below =
    new_one cache (suc from) others k d (omega (arith, below))

pub each_is_of : (config : ConfigView) (count limit : ℕ) (cache : SharedView)
    (seats : List SeatView) → Opens config count limit cache seats
    → (k : ℕ) (d : SeatView) → k < length seats → (slice_index_or seats k d).cache ≡ cache
each_is_of config count limit cache seats opens =
    subst (λ ss. (k : ℕ) (d : SeatView) → k < length ss → (slice_index_or ss k d).cache ≡ cache)
    (sym opens.in_order) (new_one cache 0 count)

-- one more is made of the first of those that are left
pub one_more_of : {A B : Type 0} (f : B → A) (all : List A) (made more : List B)
    (left others : List A) (x : A) (y : B)
    → map f made ++ left ≡ all → left ≡ x ∷ others → more ≡ made ++ y ∷ [] → f y ≡ x →
    map f more ++ others ≡ all
one_more_of {A} {B} f all made more left others x y so_far is last own =
    subst (λ (ys : List B). map f ys ++ others ≡ all) (sym last)
    (ap (λ (ys : List A). ys ++ others) (map-append f made (y ∷ [])) ∙
    append_assoc (map f made) (f y ∷ []) others ∙ ap (λ (z : A). map f made ++ z ∷ others) own
    ∙ ap (λ (ys : List A). map f made ++ ys) (sym is) ∙ so_far)

-- and where none is left it is all of them
pub none_left_of : {A B : Type 0} (f : B → A) (all : List A) (made : List B) (left : List A) →
    map f made ++ left ≡ all → length left ≡ 0 → map f made ≡ all
none_left_of f all made [] so_far is = sym (append-nil (map f made)) ∙ so_far
none_left_of f all made (x ∷ left) so_far is = absurd (omega (arith, is))
