-- A store: what its handles name, and what a call does to what a handle names.
use Rattle.std.specs.Prelude.{◌≡◌, ◌≢◌, ◌+◌, ◌-◌, ◌^◌, ◌<◌, ◌⊎◌, ℕ, List, [], length, slice_get, slice_set, Option, Some, None, Result, Err, IfOk, IfErr}
use Rattle.tsc_ffi_store.specs.Owners.{OwnerView}
use Rattle.tsc_ffi_store.specs.declared.counts.CountedCache.{CountedCache}
use Rattle.tsc_ffi_store.specs.declared.counts.CountedSeat.{CountedSeat}
use Rattle.tsc_ffi_store.specs.declared.refusal.Refusal.{Refusal}
use Rattle.tsc_ffi_store.specs.declared.refusal.Refusal.TheVariants as refusal
use Rattle.tsc_ffi_store.specs.declared.store.Slot.{Slot}
use Rattle.tsc_ffi_store.specs.declared.store.Slot.TheVariants.{Closed, Own, Shared, Seat}

-- the cache that a slot holds, with what was asked of it
abbrev pub cache_of : Slot → Option CountedCache
cache_of Closed = None
cache_of (Own cache) = Some cache
cache_of (Shared cache) = None
cache_of (Seat seat) = None

abbrev pub cache_in : Option Slot → Option CountedCache
cache_in None = None
cache_in (Some slot) = cache_of slot

-- the cache that a handle names, if it names one
abbrev pub cache_at : List Slot → ℕ → Option CountedCache
cache_at slots handle = cache_in (slice_get slots handle)

-- the shared cache that a slot holds
abbrev pub shared_of : Slot → Option OwnerView
shared_of Closed = None
shared_of (Own cache) = None
shared_of (Shared cache) = Some cache
shared_of (Seat seat) = None

abbrev pub shared_in : Option Slot → Option OwnerView
shared_in None = None
shared_in (Some slot) = shared_of slot

-- the shared cache that a handle names, if it names one
abbrev pub shared_at : List Slot → ℕ → Option OwnerView
shared_at slots handle = shared_in (slice_get slots handle)

-- the seat that a slot holds, with what was asked of it
abbrev pub seat_of : Slot → Option CountedSeat
seat_of Closed = None
seat_of (Own cache) = None
seat_of (Shared cache) = None
seat_of (Seat seat) = Some seat

abbrev pub seat_in : Option Slot → Option CountedSeat
seat_in None = None
seat_in (Some slot) = seat_of slot

-- the seat that a handle names, if it names one
abbrev pub seat_at : List Slot → ℕ → Option CountedSeat
seat_at slots handle = seat_in (slice_get slots handle)

-- No handle is given, and whatever another handle than this one names is as before.
pub record Keeps (old new : List Slot) (handle : ℕ) : Type 0 where
  pub given : length new ≡ length old
  pub others : (other : ℕ) → other ≢ handle → cache_at new other ≡ cache_at old other
  pub all_others : (other : ℕ) → other ≢ handle → slice_get new other ≡ slice_get old other

-- What was held is let go, and nothing of its kind is left. A call is refused where nothing was.
pub record LetsGo {A V : Type 0} (held after : Option V) (did : Result A Refusal) : Type 0 where
  pub none : after ≡ None
  pub done : IfOk did (λ _. held ≢ None)
  pub refused : IfErr did (λ why. (why ≡ refusal.Closed) × (held ≡ None))

-- What a call does that closes the cache or the seat that a handle names.
pub record AnswersClose {A V : Type 0} (held : List Slot → ℕ → Option V) (handle : ℕ)
    (old new : List Slot) (did : Result A Refusal) : Type 0 where
  pub closed : LetsGo (held old handle) (held new handle) did
  pub others : Keeps old new handle

-- A handle is given, which is how many were given before. Whatever another handle names is as
-- before.
pub record GivesNext (old new : List Slot) (handle : ℕ) : Type 0 where
  pub next : handle ≡ length old
  pub given : length new ≡ length old + 1
  pub others : (other : ℕ) → other ≢ handle → cache_at new other ≡ cache_at old other
  pub all_others : (other : ℕ) → other ≢ handle → slice_get new other ≡ slice_get old other

-- There are not so many handles more: they end at 2^64 - 1, which is none.
abbrev pub RefusesHandles : Refusal → List Slot → ℕ → Type 0
RefusesHandles why slots more = (why ≡ refusal.Full) × (2 ^ 64 - 1 < length slots + more)

-- A handle names no cache, so a call is refused.
pub record NamesNoCache {A : Type 0} (slots : List Slot) (handle : ℕ) (did : Result A Refusal) :
    Type 0 where
  pub none : cache_at slots handle ≡ None
  pub closed : did ≡ Err refusal.Closed

-- A call reads the cache that a handle names.
pub record ReadsCache {A : Type 0} (Reads : CountedCache → Result A Refusal → Type 0)
    (slots : List Slot) (handle : ℕ) (did : Result A Refusal) : Type 0 where
  pub cache : CountedCache
  pub holds : cache_at slots handle ≡ Some cache
  pub reads : Reads cache did

-- What a call answers that reads a cache by its handle.
abbrev pub AnswersOfCache : {A : Type 0} → (CountedCache → Result A Refusal → Type 0) → List Slot →
    ℕ → Result A Refusal → Type 0
AnswersOfCache Reads slots handle did =
    NamesNoCache slots handle did ⊎ ReadsCache Reads slots handle did

-- A call works on the cache that a handle names. What the other handles name is as before.
pub record WorksOnCache {A : Type 0}
    (Works : CountedCache → CountedCache → Result A Refusal → Type 0) (old new : List Slot)
    (handle : ℕ) (did : Result A Refusal) : Type 0 where
  pub cache : CountedCache
  pub after : CountedCache
  pub holds : cache_at old handle ≡ Some cache
  pub leaves : new ≡ slice_set old handle (Own after)
  pub works : Works cache after did

-- What a call does that works on a cache by its handle.
abbrev pub DoesToCache : {A : Type 0} →
    (CountedCache → CountedCache → Result A Refusal → Type 0) → List Slot → List Slot → ℕ →
    Result A Refusal → Type 0
DoesToCache Works old new handle did =
    (NamesNoCache old handle did × (new ≡ old)) ⊎ WorksOnCache Works old new handle did

-- A handle names no seat, so a call is refused.
pub record NamesNoSeat {A : Type 0} (slots : List Slot) (handle : ℕ) (did : Result A Refusal) : Type
    0 where
  pub none : seat_at slots handle ≡ None
  pub closed : did ≡ Err refusal.Closed

-- A call works on the seat that a handle names. What the other handles name is as before.
pub record WorksOnSeat {A : Type 0} (Works : CountedSeat → CountedSeat → Result A Refusal → Type 0)
    (old new : List Slot) (handle : ℕ) (did : Result A Refusal) : Type 0 where
  pub seat : CountedSeat
  pub after : CountedSeat
  pub holds : seat_at old handle ≡ Some seat
  pub leaves : new ≡ slice_set old handle (Seat after)
  pub works : Works seat after did

-- What a call does that works on a seat by its handle.
abbrev pub DoesToSeat : {A : Type 0} → (CountedSeat → CountedSeat → Result A Refusal → Type 0) →
    List Slot → List Slot → ℕ → Result A Refusal → Type 0
DoesToSeat Works old new handle did =
    (NamesNoSeat old handle did × (new ≡ old)) ⊎ WorksOnSeat Works old new handle did

-- the slots of the store that a pointer of C owns; one that owns none is like one with an empty
-- store
abbrev pub slots_of : Option (List Slot) → List Slot
slots_of None = []
slots_of (Some slots) = slots
