-- How what a handle names is lent.
use Rattle.std.specs.Prelude.{◌≡◌, ℕ, List, Option, OnSome, slice_set}
use Rattle.std.specs.Borrow.{Fml, MutBor, LendsIf, LendsSo}
use Rattle.tsc_ffi_store.specs.declared.counts.CountedCache.{CountedCache}
use Rattle.tsc_ffi_store.specs.contracts.counts.CountedCache.{the_row as cache_row}
use Rattle.tsc_ffi_store.specs.declared.counts.CountedSeat.{CountedSeat}
use Rattle.tsc_ffi_store.specs.contracts.counts.CountedSeat.{the_row as seat_row}
use Rattle.tsc_ffi_store.specs.contracts.store.Slot.{the_row as slot_row}
use Rattle.tsc_ffi_store.specs.contracts.store.Store.{the_row}
use Rattle.tsc_ffi_store.specs.declared.store.Slot.{Slot}
use Rattle.tsc_ffi_store.specs.declared.store.Slot.TheVariants.{Own, Seat}

-- A slot ends with the last cache behind the reference, if it held one, and else as it was.
abbrev pub LendsCache : MutBor Slot → Option (MutBor CountedCache) → Fml
LendsCache slot r = LendsIf slot_row cache_row slot r Own slot.now

-- A slot ends with the last seat behind the reference, if it held one, and else as it was.
abbrev pub LendsSeat : MutBor Slot → Option (MutBor CountedSeat) → Fml
LendsSeat slot r = LendsIf slot_row seat_row slot r Seat slot.now

-- The handle names the last cache behind the reference, if it named one. Otherwise the slots end as
-- they were.
abbrev pub LendsCacheAt : MutBor (List Slot) → ℕ → Option (MutBor CountedCache) → Fml
LendsCacheAt store handle r =
    LendsSo the_row cache_row store r
    (λ n w. OnSome r (n ≡ slice_set store.now handle (Own w)))
    (λ n. n ≡ store.now)

-- The handle names the last seat behind the reference, if it named one. Otherwise the slots end as
-- they were.
abbrev pub LendsSeatAt : MutBor (List Slot) → ℕ → Option (MutBor CountedSeat) → Fml
LendsSeatAt store handle r =
    LendsSo the_row seat_row store r
    (λ n w. OnSome r (n ≡ slice_set store.now handle (Seat w)))
    (λ n. n ≡ store.now)
