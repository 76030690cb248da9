-- Seats that a shared cache was opened with are its own, also those that are kept of them, and
-- where the last one is taken
-- off and put back.
use Rattle.std.proofs.Common.{◌≡◌, ◌∙◌, refl, sym, ap, subst, ℕ, zero, suc, ◌<◌, List, [], ◌∷◌, ◌++◌, length, arith}
use Rattle.std.specs.Prelude.{All, slice_index_or, take}
use Rattle.std.proofs.lemmas.List.{length_push}
use Rattle.std.proofs.lemmas.List.Elements.{All-take, All-push}
use Rattle.tsc_shared.specs.Seats.{SharedView, SeatView, new_seats}

new_all : (cache : SharedView) (from n : ℕ) →
    All (λ (seat : SeatView). seat.cache ≡ cache) (new_seats cache from n)
new_all cache from zero k d low = absurd (omega (arith, low))
new_all cache from (suc n) zero d low = refl
new_all cache from (suc n) (suc k) d low = new_all cache (suc from) n k d (omega (arith, low))

opened_all : (cache : SharedView) (seats : List SeatView) (n : ℕ) → seats ≡ new_seats cache 0 n →
    All (λ (seat : SeatView). seat.cache ≡ cache) seats
opened_all cache seats n is = subst
    (λ (ss : List SeatView). All (λ (seat : SeatView). seat.cache ≡ cache) ss) (sym is)
    (new_all cache 0 n)

-- of which so many are kept
pub kept_all : (cache : SharedView) (seats zs : List SeatView) (n k : ℕ) →
    seats ≡ new_seats cache 0 n → zs ≡ take k seats →
    All (λ (seat : SeatView). seat.cache ≡ cache) zs
kept_all cache seats zs n k is kept =
    subst (λ (ss : List SeatView). All (λ (seat : SeatView). seat.cache ≡ cache) ss) (sym kept)
    (All-take (λ (seat : SeatView). seat.cache ≡ cache) k seats (opened_all cache seats n is))

at_first : {X : Type 0} (xs : List X) (x d : X) (k : ℕ) → k < length xs →
    slice_index_or (xs ++ x ∷ []) k d ≡ slice_index_or xs k d
at_first [] x d k low = absurd (omega (arith, low))
at_first (y ∷ xs) x d zero low = refl
at_first (y ∷ xs) x d (suc k) low = at_first xs x d k (omega (arith, low))

at_last : {X : Type 0} (xs : List X) (x : X) → slice_index_or (xs ++ x ∷ []) (length xs) x ≡ x
at_last [] x = refl
at_last (y ∷ xs) x = at_last xs x

pub all_but_last : {X : Type 0} (P : X → Type 0) (xs zs : List X) (x : X) → zs ≡ xs ++ x ∷ [] →
    All P zs → All P xs
all_but_last P xs zs x is all k d low =
    subst P (ap (λ v. slice_index_or v k d) is ∙ at_first xs x d k low)
    (all k d (omega (arith, low, ap length is, length_push xs x)))

pub the_last : {X : Type 0} (P : X → Type 0) (xs zs : List X) (x : X) → zs ≡ xs ++ x ∷ [] →
    All P zs → P x
the_last P xs zs x is all = subst P (ap (λ v. slice_index_or v (length xs) x) is ∙ at_last xs x)
    (all (length xs) x (omega (arith, ap length is, length_push xs x)))

pub all_and_last : {X : Type 0} (P : X → Type 0) (xs zs : List X) (x : X) → zs ≡ xs ++ x ∷ [] →
    All P xs → P x → All P zs
all_and_last P xs zs x is all last = subst (All P) (sym is) (All-push P xs x all last)
