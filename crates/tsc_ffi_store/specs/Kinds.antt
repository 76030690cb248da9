-- The kinds of caches that threads share, and of their seats: what is said of each by itself.
use Rattle.std.specs.Prelude.{◌≡◌, ℕ, zero, suc, List, [], ◌∷◌, length}
use Rattle.tsc_cache.specs.ConfigView.{ConfigView}
use Rattle.tsc_shared.specs.Seats.{SeatView as SharedSeat, new_seat as new_shared, IsSeat as IsShared}
use Rattle.tsc_striped.specs.Seats.{SeatView as StripedSeat, new_seat as new_striped}
use Rattle.tsc_striped.specs.Seats.{IsSeat as IsStriped}
use Rattle.tsc_ffi_store.specs.declared.seats.kinds.AnyCache.{AnyCache}
use Rattle.tsc_ffi_store.specs.declared.seats.kinds.AnyCache.TheVariants as cache
use Rattle.tsc_ffi_store.specs.declared.seats.kinds.AnySeat.{AnySeat}
use Rattle.tsc_ffi_store.specs.declared.seats.kinds.AnySeat.TheVariants.{Shared, Striped}

-- how many seats a cache has
abbrev pub seats_of : AnyCache → ℕ
seats_of (cache.Shared c) = c.seats
seats_of (cache.Striped c) = c.terms.seats

-- the cache of a seat
abbrev pub cache_of : AnySeat → AnyCache
cache_of (Shared s) = cache.Shared s.cache
cache_of (Striped s) = cache.Striped s.cache

-- how the cache of a seat was set up
abbrev pub config_of : AnySeat → ConfigView
config_of (Shared s) = s.cache.config
config_of (Striped s) = s.cache.terms.config

abbrev pub number_of : AnySeat → ℕ
number_of (Shared s) = s.number
number_of (Striped s) = s.number

-- how many Adds of its own a seat counts
abbrev pub count_of : AnySeat → ℕ
count_of (Shared s) = s.count
count_of (Striped s) = s.count

-- What a seat tells of what it has seen: at a shared cache how many Adds that is, and in stripes
-- how many of its own are among it.
abbrev pub front_of : AnySeat → ℕ
front_of (Shared s) = length s.seen
front_of (Striped s) = s.count

-- what a seat always is
abbrev pub IsAnySeat : AnySeat → Type 0
IsAnySeat (Shared s) = IsShared s
IsAnySeat (Striped s) = IsStriped s

-- a seat that nobody has used yet
abbrev pub new_any_seat : AnyCache → ℕ → AnySeat
new_any_seat (cache.Shared c) number = Shared (new_shared c number)
new_any_seat (cache.Striped c) number = Striped (new_striped c number)

-- seats that nobody has used, in the order of their numbers, from one on
abbrev pub new_any_seats : AnyCache → ℕ → ℕ → List AnySeat
new_any_seats c number zero = []
new_any_seats c number (suc others) = new_any_seat c number ∷ new_any_seats c (suc number) others

-- What a call does to a seat, by its kind: the seat stays one of its kind.
abbrev pub ByKind : {A : Type 0} → (SharedSeat → SharedSeat → A → Type 0)
    → (StripedSeat → StripedSeat → A → Type 0) → AnySeat → AnySeat → A → Type 0
ByKind S T (Shared old) (Shared new) did = S old new did
ByKind S T (Shared old) (Striped new) did = ⊥
ByKind S T (Striped old) (Shared new) did = ⊥
ByKind S T (Striped old) (Striped new) did = T old new did
