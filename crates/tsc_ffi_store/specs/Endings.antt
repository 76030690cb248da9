-- What it takes to end a cache, whose seats are all there. (For private contracts and the models.)
use Rattle.std.specs.Prelude.{◌≡◌, ℕ, ◌≤◌, List, [], All, map, length, Some}
use Rattle.std.specs.Vec.{vec_capacity}
use Rattle.tsc_cache.specs.CacheView.{CacheView}
use Rattle.tsc_shared.specs.Seats.{SharedView, SeatView}
use Rattle.tsc_shared.specs.declared.answers.Closed.{Closed}
use Rattle.tsc_shared.specs.Answers.{Closes}
use Rattle.tsc_striped.specs.Seats.{StripedView, DealerView, SeatView as StripedSeat}
use Rattle.tsc_striped.specs.Answers.{Retires}
use Rattle.tsc_ffi_store.specs.declared.seats.kinds.AnyCache.{AnyCache}
use Rattle.tsc_ffi_store.specs.declared.seats.kinds.AnyCache.TheVariants as cache
use Rattle.tsc_ffi_store.specs.declared.seats.kinds.AnySeat.{AnySeat}
use Rattle.tsc_ffi_store.specs.declared.seats.kinds.AnySeat.TheVariants as any
use Rattle.tsc_ffi_store.specs.declared.seats.ending.Ending.{Ending}
use Rattle.tsc_ffi_store.specs.declared.seats.ending.Ending.TheVariants.{Shared, Striped}
use Rattle.tsc_ffi_store.specs.Owners.{adds_of}

-- what it takes for a shared cache of so many seats: an empty list with room for them
abbrev pub EndsShared : ℕ → Ending → Type 0
EndsShared seats (Shared room) = (room.items ≡ []) × (seats ≤ vec_capacity room)
EndsShared seats (Striped dealer room) = ⊥

-- what it takes for a cache in stripes: such a list, and its dealer
abbrev pub EndsStriped : DealerView → ℕ → Ending → Type 0
EndsStriped its seats (Shared room) = ⊥
EndsStriped its seats (Striped dealer room) =
    (dealer ≡ its) × (room.items ≡ []) × (seats ≤ vec_capacity room)

-- what it takes to end this cache
abbrev pub CanEnd : AnyCache → Ending → Type 0
CanEnd (cache.Shared c) ending = EndsShared c.seats ending
CanEnd (cache.Striped c) ending =
    EndsStriped (record { cache = c; dealt = c.terms.seats }) c.terms.seats ending

-- all of some seats are of shared caches, these
pub record AreShared (seats : List AnySeat) (own : List SeatView) : Type 0 where
  pub are : seats ≡ map any.Shared own

-- all of some seats are of caches in stripes, these
pub record AreStriped (seats : List AnySeat) (own : List StripedSeat) : Type 0 where
  pub are : seats ≡ map any.Striped own

-- A shared cache ended with these seats, and so many Adds.
pub record SharedEnds (c : SharedView) (seats : List AnySeat) (adds : ℕ) : Type 0 where
  pub own : List SeatView
  pub are : seats ≡ map any.Shared own
  pub ended : Closed
  pub closes : Closes c own ended
  pub long : adds ≡ ended.adds

-- A cache in stripes ended with these seats, and as many Adds as these count together.
pub record StripedEnds (c : StripedView) (seats : List AnySeat) (adds : ℕ) : Type 0 where
  pub own : List StripedSeat
  pub are : seats ≡ map any.Striped own
  pub caches : List CacheView
  pub retires : Retires (record { cache = c; dealt = c.terms.seats }) own caches
  pub long : adds ≡ adds_of own

abbrev pub EndsWithSeats : AnyCache → List AnySeat → ℕ → Type 0
EndsWithSeats (cache.Shared c) seats adds = SharedEnds c seats adds
EndsWithSeats (cache.Striped c) seats adds = StripedEnds c seats adds
