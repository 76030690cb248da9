-- A shared cache, the handles of its seats, and its owner. (For private contracts and the models.)
use Rattle.std.specs.Prelude.{◌≡◌, ℕ, ◌+◌, ◌<◌, List, [], ◌∷◌, ◌++◌, ◌≤◌, Some}
use Rattle.atomic_table.specs.Seated.{TableId}
use Rattle.tsc_ffi_store.specs.declared.seats.kinds.AnyCache.{AnyCache}
use Rattle.tsc_ffi_store.specs.declared.seats.kinds.AnySeat.{AnySeat}
use Rattle.tsc_ffi_store.specs.Kinds.{seats_of, cache_of, number_of}
use Rattle.tsc_ffi_store.specs.declared.seats.return_slots.Known.{Known}
use Rattle.tsc_ffi_store.specs.Owners.{IsMissing}
use Rattle.tsc_ffi_store.specs.ReturnSlots.{dealing, keeping, token}
use Rattle.tsc_ffi_store.specs.ReturnSteps.{At}

-- A cache, and the table of the slots in which its seats are returned.
pub record SharedHandleView : Type 0 where
  pub cache : AnyCache
  pub table : TableId

-- the table has a word and a slot for each of `seats` seats
pub record IsSized (table : TableId) (seats : ℕ) : Type 0 where
  pub words : table.words ≡ seats
  pub slots : table.slots ≡ seats

-- A seat of this cache, and its token for this table.
pub record Sits (shared : SharedHandleView) (seat : AnySeat) (table : TableId) (me : At) : Type
    0 where
  pub cache : cache_of seat ≡ shared.cache
  pub its_table : table ≡ shared.table
  pub low : (number_of seat) < (seats_of shared.cache)
  pub token : me ≡ (token (number_of seat), [])

-- A token of a table from which others are dealt: slots are left for them.
pub record DealsOn (table its : TableId) (me : At) : Type 0 where
  pub its_table : its ≡ table
  pub words : 0 < table.words
  pub unused : me ≡ (dealing me.0.cache me.0.from me.0.to 0, [])
  pub some : me.0.from < me.0.to

-- The token from which the seats of this cache get theirs, from a number on.
pub record Deals (shared : SharedHandleView) (table : TableId) (me : At) (number : ℕ) : Type
    0 where
  pub its_table : table ≡ shared.table
  pub sized : IsSized shared.table (seats_of shared.cache)
  pub others : me ≡ (
    dealing (Some shared.cache) number (seats_of shared.cache + seats_of shared.cache) 0,
    [],
  )

-- A token of a table for the `seats` seats of a cache, which knows that the first `returned` of
-- them are returned, and of some as what.
pub record KnowsReturned (cache : AnyCache) (table its : TableId) (me : At) (seats returned : ℕ)
    (back : List AnySeat) : Type 0 where
  pub its_table : its ≡ table
  pub sized : IsSized table seats
  pub known : me ≡ (keeping cache seats returned back me.0.missed, [])
  pub some : returned ≤ seats

-- One look more found a slot without its seat. No seat of that number was known to be back.
pub record MissesOne (seats : ℕ) (old new : Known) : Type 0 where
  pub missing : IsMissing seats old.back
  pub looked : new.missed ≡ old.missed ++ missing.number ∷ []

-- An empty list, which has room for `seats` seats.
pub record IsRoomFor (items : List AnySeat) (capacity seats : ℕ) : Type 0 where
  pub empty : items ≡ []
  pub room : seats ≤ capacity

-- The keeper's token knows that the first `returned` seats are returned, and of some as what.
pub record IsKeeper (shared : SharedHandleView) (table : TableId) (me : At) (seats returned : ℕ)
    (back : List AnySeat) : Type 0 where
  pub its_table : table ≡ shared.table
  pub all : seats ≡ (seats_of shared.cache)
  pub known : me ≡ (keeping shared.cache seats returned back me.0.missed, [])
  pub some : returned ≤ seats
  pub any : 0 < seats
