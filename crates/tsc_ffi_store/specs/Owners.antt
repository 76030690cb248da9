-- What can be seen of a seat by its handle, and of who opened its cache.
use Rattle.std.specs.Prelude.{◌≡◌, ◌≢◌, ◌⊎◌, ◌++◌, ◌∷◌, ℕ, ◌<◌, List, [], All, map, length, slice_get, true, Some}
use Rattle.atomic_table.specs.Seated.{TableId}
use Rattle.tsc_span.specs.Span.{KeyBytes}
use Rattle.std.specs.List.{sum_by}
use Rattle.tsc_cache.specs.ConfigView.{ConfigView}
use Rattle.tsc_cache.specs.CacheView.{CacheView}
use Rattle.tsc_cache.specs.Counts.{up_to_end}
use Rattle.tsc_shared.specs.Seats.{SharedView, SeatView, is_seat_count}
use Rattle.tsc_shared.specs.declared.answers.Closed.{Closed}
use Rattle.tsc_shared.specs.Answers.{Closes}
use Rattle.tsc_striped.specs.Seats.{StripedView, SeatView as StripedSeat, IsSettled}
use Rattle.tsc_striped.specs.Answers.{Retires}
use Rattle.tsc_ffi_store.specs.declared.seats.kinds.AnyCache.{AnyCache}
use Rattle.tsc_ffi_store.specs.declared.seats.kinds.AnyCache.TheVariants.{Shared, Striped}
use Rattle.tsc_ffi_store.specs.declared.seats.kinds.AnySeat.{AnySeat}
use Rattle.tsc_ffi_store.specs.declared.seats.kinds.AnySeat.TheVariants as seat
use Rattle.tsc_ffi_store.specs.Kinds.{seats_of, number_of, new_any_seats}

-- A seat by its handle, and the table in which it is returned. No other cache has that table.
pub record HandleView : Type 0 where
  pub seat : AnySeat
  pub returns : TableId

-- The owner of a cache that threads share has the cache, and the table in which its seats are
-- returned. It knows which seats came back beside it, and as what. And it knows the number of the
-- seat for each time that it looked into a slot of the table, and no seat was returned there. The
-- step `sees_returned` of that table alone adds to these.
pub record OwnerView : Type 0 where
  pub cache : AnyCache
  pub returns : TableId
  pub back : List AnySeat
  pub missed : List ℕ

-- the handle of a seat that is returned there
abbrev pub handle_of : TableId → AnySeat → HandleView
handle_of returns seat = record { seat = seat; returns = returns }

-- A shared cache with these settings, that many seats, and that limit.
pub record IsShared (config : ConfigView) (count limit : ℕ) (cache : AnyCache) : Type 0 where
  pub shared : SharedView
  pub is : cache ≡ Shared shared
  pub config_kept : shared.config ≡ config
  pub count_kept : shared.seats ≡ count
  pub limit_kept : shared.limit ≡ limit

-- A cache in stripes with these settings, that many seats, and these bounds.
pub record IsStriped (config : ConfigView) (count : ℕ) (bounds : List KeyBytes) (cache : AnyCache) :
    Type 0 where
  pub striped : StripedView
  pub is : cache ≡ Striped striped
  pub terms : striped.terms ≡ record { config = config; seats = count; bounds = bounds }
  pub settled : IsSettled striped.terms

-- An owner has new seats, as many as these, which nobody has used. None of them is back, and none
-- was looked for.
pub record HasSeats (count : ℕ) (owner : OwnerView) (handles : List HandleView) : Type 0 where
  pub in_order : handles ≡ map (handle_of owner.returns) (new_any_seats owner.cache 0 count)
  pub none_back : owner.back ≡ []
  pub none_missed : owner.missed ≡ []

-- A cache is opened with these settings, that many seats, which nobody has used, and that limit.
-- None of the seats is back.
pub record OpensAt (config : ConfigView) (count limit : ℕ) (owner : OwnerView)
    (handles : List HandleView) : Type 0 where
  pub cache : IsShared config count limit owner.cache
  pub is_count : is_seat_count count ≡ true
  pub seats : HasSeats count owner handles

-- A cache in stripes is opened with these settings, that many seats, which nobody has used, and
-- these bounds. None of the seats is back.
pub record OpensInStripes (config : ConfigView) (count : ℕ) (bounds : List KeyBytes)
    (owner : OwnerView) (handles : List HandleView) : Type 0 where
  pub cache : IsStriped config count bounds owner.cache
  pub some : 0 < count
  pub seats : HasSeats count owner handles

-- An owner learns of seats that came back to a table: just where it is that of its own seats.
abbrev pub LearnsOf : TableId → List AnySeat → OwnerView → OwnerView → Type 0
LearnsOf returns seats old new =
    ((old.returns ≡ returns) × (new ≡ record old { back = old.back ++ seats }))
    ⊎ ((old.returns ≢ returns) × (new ≡ old))

-- Some seat of `seats` is not among those that are known to be back.
pub record IsMissing (seats : ℕ) (back : List AnySeat) : Type 0 where
  pub number : ℕ
  pub low : number < seats
  pub out : All (λ s. number_of s ≢ number) back

-- An owner looked for a seat that is not among those which it knows to be back, and saw that it was
-- not returned. That it saw so is all that changes.
pub record MissesSeat (old new : OwnerView) : Type 0 where
  pub missing : IsMissing (seats_of old.cache) old.back
  pub looked : new ≡ record old { missed = old.missed ++ missing.number ∷ [] }

-- Each seat that is known to be back is one of some seats, at its number, as it was then.
abbrev pub AreBack : List AnySeat → List AnySeat → Type 0
AreBack seats back = All (λ s. slice_get seats (number_of s) ≡ Some s) back

-- A shared cache ended with all its seats. Each that its owner knows to be back is one of them, at
-- its number, as it was then.
pub record EndsWith (cache : SharedView) (back : List AnySeat) (ended : Closed) : Type 0 where
  pub seats : List SeatView
  pub all : length seats ≡ cache.seats
  pub back_are : AreBack (map seat.Shared seats) back
  pub closes : Closes cache seats ended

-- how many Adds some seats count together, or the greatest number of 64 bits where that is more
abbrev pub adds_of : List StripedSeat → ℕ
adds_of seats = up_to_end (sum_by (λ (s : StripedSeat). s.count) seats)

-- A cache in stripes ended so, with as many Adds as its seats count together.
pub record EndsInStripes (cache : StripedView) (back : List AnySeat) (adds : ℕ) : Type 0 where
  pub seats : List StripedSeat
  pub all : length seats ≡ cache.terms.seats
  pub back_are : AreBack (map seat.Striped seats) back
  pub caches : List CacheView
  pub retires : Retires (record { cache = cache; dealt = cache.terms.seats }) seats caches
  pub long : adds ≡ adds_of seats

-- A cache ended, with so many Adds.
abbrev pub EndsSo : AnyCache → List AnySeat → ℕ → Type 0
EndsSo (Shared cache) back adds =
    (ended : Closed) × EndsWith cache back ended × (adds ≡ ended.adds)
EndsSo (Striped cache) back adds = EndsInStripes cache back adds
