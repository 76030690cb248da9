-- Seats that are all of one kind.
use Rattle.std.proofs.Common.{◌≡◌, ◌∙◌, refl, sym, ap, subst, ℕ, zero, suc, ◌<◌, List, [], ◌∷◌, ◌++◌, length, map, All, arith}
use Rattle.std.proofs.lemmas.List.{length-map}
use Rattle.tsc_shared.specs.Seats.{SharedView, SeatView}
use Rattle.tsc_striped.specs.Seats.{StripedView, SeatView as StripedSeat}
use Rattle.tsc_ffi_store.specs.declared.seats.kinds.AnyCache.{AnyCache}
use Rattle.tsc_ffi_store.specs.declared.seats.kinds.AnyCache.TheVariants as cache
use Rattle.tsc_ffi_store.specs.declared.seats.kinds.AnySeat.{AnySeat}
use Rattle.tsc_ffi_store.specs.declared.seats.kinds.AnySeat.TheVariants.{Shared, Striped}
use Rattle.tsc_ffi_store.specs.Kinds.{cache_of, seats_of}
use Rattle.tsc_ffi_store.specs.Owners.{AreBack, EndsSo}
use Rattle.tsc_ffi_store.specs.Endings.{AreShared, AreStriped, EndsWithSeats}

head_or : AnySeat → List AnySeat → AnySeat
head_or d [] = d
head_or d (x ∷ xs) = x

tail_of : List AnySeat → List AnySeat
tail_of [] = []
tail_of (x ∷ xs) = xs

pub record IsShared (x : AnySeat) : Type 0 where
  pub seat : SeatView
  pub is : x ≡ Shared seat

pub record IsStriped (x : AnySeat) : Type 0 where
  pub seat : StripedSeat
  pub is : x ≡ Striped seat

pub next_shared : (room own : List SeatView) (x : AnySeat) (rest : List AnySeat)
    → map Shared room ++ x ∷ rest ≡ map Shared own → IsShared x
unfolding head_or tail_of
next_shared [] [] x rest is = absurd (omega (arith, ap length is))
next_shared [] (s ∷ own) x rest is = record { seat = s; is = ap (head_or x) is }
next_shared (r ∷ room) [] x rest is = absurd (omega (arith, ap length is))
next_shared (r ∷ room) (s ∷ own) x rest is = next_shared room own x rest (ap tail_of is)

pub next_striped : (room own : List StripedSeat) (x : AnySeat) (rest : List AnySeat)
    → map Striped room ++ x ∷ rest ≡ map Striped own → IsStriped x
unfolding head_or tail_of
next_striped [] [] x rest is = absurd (omega (arith, ap length is))
next_striped [] (s ∷ own) x rest is = record { seat = s; is = ap (head_or x) is }
next_striped (r ∷ room) [] x rest is = absurd (omega (arith, ap length is))
next_striped (r ∷ room) (s ∷ own) x rest is = next_striped room own x rest (ap tail_of is)

-- ---- where all have one cache, which is shared

abbrev shared_or : SharedView → AnyCache → SharedView
shared_or d (cache.Shared c) = c
shared_or d (cache.Striped c) = d

abbrev is_shared : AnyCache → Type 0
is_shared (cache.Shared c) = Unit {0}
is_shared (cache.Striped c) = ⊥

one_shared : (c : SharedView) (x : AnySeat) → cache_of x ≡ cache.Shared c → IsShared x
one_shared c (Shared s) is = record { seat = s; is = refl }
one_shared c (Striped s) is = absurd (subst is_shared (sym is) tt)

pub all_shared : (c : SharedView) (seats : List AnySeat)
    → All (λ (s : AnySeat). cache_of s ≡ cache.Shared c) seats → (own : List SeatView) × AreShared seats own
all_shared c [] all = ([], record { are = refl })
all_shared c (x ∷ xs) all =
    let first = one_shared c x (all 0 x (omega arith)) in
    let others = all_shared c xs (λ i d lt. all (suc i) d (omega (arith, lt))) in (
      first.seat ∷ others.0,
      record {
        are = ap (λ (y : AnySeat). y ∷ xs) first.is
            ∙ ap (λ (ys : List AnySeat). Shared first.seat ∷ ys) others.1.are;
      },
    )

own_shared : (c : SharedView) (own : List SeatView)
    → All (λ (s : AnySeat). cache_of s ≡ cache.Shared c) (map Shared own)
    → All (λ (s : SeatView). s.cache ≡ c) own
own_shared c [] all i d lt = absurd (omega (arith, lt))
own_shared c (s ∷ own) all zero d lt = ap (shared_or c) (all 0 (Shared s) (omega arith))
own_shared c (s ∷ own) all (suc i) d lt =
    own_shared c own (λ j e less. all (suc j) e (omega (arith, less))) i d (omega (arith, lt))

pub shared_caches : (c : SharedView) (seats : List AnySeat) (own : List SeatView)
    → All (λ (s : AnySeat). cache_of s ≡ cache.Shared c) seats → AreShared seats own
    → All (λ (s : SeatView). s.cache ≡ c) own
shared_caches c seats own all are =
    own_shared c own (subst (λ (xs : List AnySeat). All (λ (s : AnySeat). cache_of s ≡ cache.Shared c) xs)
    are.are all)

-- ---- where all have one cache, which is in stripes

abbrev striped_or : StripedView → AnyCache → StripedView
striped_or d (cache.Striped c) = c
striped_or d (cache.Shared c) = d

abbrev is_striped : AnyCache → Type 0
is_striped (cache.Striped c) = Unit {0}
is_striped (cache.Shared c) = ⊥

one_striped : (c : StripedView) (x : AnySeat) → cache_of x ≡ cache.Striped c → IsStriped x
one_striped c (Striped s) is = record { seat = s; is = refl }
one_striped c (Shared s) is = absurd (subst is_striped (sym is) tt)

pub all_striped : (c : StripedView) (seats : List AnySeat)
    → All (λ (s : AnySeat). cache_of s ≡ cache.Striped c) seats → (own : List StripedSeat) × AreStriped seats own
all_striped c [] all = ([], record { are = refl })
all_striped c (x ∷ xs) all =
    let first = one_striped c x (all 0 x (omega arith)) in
    let others = all_striped c xs (λ i d lt. all (suc i) d (omega (arith, lt))) in (
      first.seat ∷ others.0,
      record {
        are = ap (λ (y : AnySeat). y ∷ xs) first.is
            ∙ ap (λ (ys : List AnySeat). Striped first.seat ∷ ys) others.1.are;
      },
    )

own_striped : (c : StripedView) (own : List StripedSeat)
    → All (λ (s : AnySeat). cache_of s ≡ cache.Striped c) (map Striped own)
    → All (λ (s : StripedSeat). s.cache ≡ c) own
own_striped c [] all i d lt = absurd (omega (arith, lt))
own_striped c (s ∷ own) all zero d lt = ap (striped_or c) (all 0 (Striped s) (omega arith))
own_striped c (s ∷ own) all (suc i) d lt =
    own_striped c own (λ j e less. all (suc j) e (omega (arith, less))) i d (omega (arith, lt))

pub striped_caches : (c : StripedView) (seats : List AnySeat) (own : List StripedSeat)
    → All (λ (s : AnySeat). cache_of s ≡ cache.Striped c) seats → AreStriped seats own
    → All (λ (s : StripedSeat). s.cache ≡ c) own
striped_caches c seats own all are =
    own_striped c own (subst (λ (xs : List AnySeat). All (λ (s : AnySeat). cache_of s ≡ cache.Striped c) xs)
    are.are all)

-- ---- the end

pub ends_so : (k : AnyCache) (seats back : List AnySeat) (adds : ℕ) → length seats ≡ seats_of k
    → AreBack seats back → EndsWithSeats k seats adds → EndsSo k back adds
ends_so (cache.Shared c) seats back adds long are ends = (
  ends.ended,
  record {
    seats = ends.own;
    all = sym (length-map ends.own Shared) ∙ ap length (sym ends.are) ∙ long;
    back_are = subst (λ (xs : List AnySeat). AreBack xs back) ends.are are;
    closes = ends.closes;
  },
  ends.long,
)
ends_so (cache.Striped c) seats back adds long are ends = record {
  seats = ends.own;
  all = sym (length-map ends.own Striped) ∙ ap length (sym ends.are) ∙ long;
  back_are = subst (λ (xs : List AnySeat). AreBack xs back) ends.are are;
  caches = ends.caches;
  retires = ends.retires;
  long = ends.long;
}
