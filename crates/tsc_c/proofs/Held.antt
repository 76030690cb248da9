-- What is done in the store that a pointer owns is done by the call; and where none is owned a call
-- is refused.
use Rattle.std.proofs.Common.{◌≡◌, refl, sym, subst, inl, inr, ℕ, List, []}
use Rattle.std.specs.Prelude.{Option, Some, None, Result, Err, slice_set}
use Rattle.tsc_ffi_store.specs.declared.counts.CountedCache.{CountedCache}
use Rattle.tsc_ffi_store.specs.declared.counts.CountedSeat.{CountedSeat}
use Rattle.tsc_ffi_store.specs.declared.refusal.Refusal.{Refusal}
use Rattle.tsc_ffi_store.specs.declared.refusal.Refusal.TheVariants as refusal
use Rattle.tsc_ffi_store.specs.declared.store.Slot.{Slot}
use Rattle.tsc_ffi_store.specs.declared.store.Slot.TheVariants.{Own, Seat}
use Rattle.tsc_ffi_store.specs.Store.{slots_of, AnswersOfCache, DoesToCache, DoesToSeat}
use Rattle.tsc_ffi_store.specs.Store.{cache_at, seat_at, AnswersClose, Keeps}
use Rattle.tsc_ffi_store.specs.SeatCalls.{AnswersCloseSeat, AnswersCloseShared, AnswersMove}

pub in_store : (P : List Slot → List Slot → Type 0) (old new : Option (List Slot)) (held after : List Slot) →
    old ≡ Some held → new ≡ Some after → P held after →
    P (slots_of old) (slots_of new)
in_store P old new held after was is did =
    subst (λ (o : Option (List Slot)). P (slots_of o) (slots_of new)) (sym was)
    (subst (λ (n : Option (List Slot)). P held (slots_of n)) (sym is) did)

pub none_read : {A : Type 0} (Reads : CountedCache → Result A Refusal → Type 0) (old : Option (List Slot))
    (handle : ℕ) → old ≡ None → AnswersOfCache Reads (slots_of old) handle (Err refusal.Closed)
none_read {A} Reads old handle none =
    subst (λ (o : Option (List Slot)). AnswersOfCache Reads (slots_of o) handle (Err refusal.Closed))
    (sym none) (inl (record { none = refl; closed = refl }))

pub no_cache : {A : Type 0} (Works : CountedCache → CountedCache → Result A Refusal → Type 0)
    (old new : Option (List Slot)) (handle : ℕ) → old ≡ None → new ≡ None
    → DoesToCache Works (slots_of old) (slots_of new) handle (Err refusal.Closed)
no_cache {A} Works old new handle was is =
    subst (λ (o : Option (List Slot)). DoesToCache Works (slots_of o) (slots_of new) handle
    (Err refusal.Closed)) (sym was)
    (subst (λ (n : Option (List Slot)). DoesToCache Works [] (slots_of n) handle (Err refusal.Closed))
    (sym is) (inl (record { none = refl; closed = refl }, refl)))

pub no_seat : {A : Type 0} (Works : CountedSeat → CountedSeat → Result A Refusal → Type 0)
    (old new : Option (List Slot)) (handle : ℕ) → old ≡ None → new ≡ None
    → DoesToSeat Works (slots_of old) (slots_of new) handle (Err refusal.Closed)
no_seat {A} Works old new handle was is =
    subst (λ (o : Option (List Slot)). DoesToSeat Works (slots_of o) (slots_of new) handle
    (Err refusal.Closed)) (sym was)
    (subst (λ (n : Option (List Slot)). DoesToSeat Works [] (slots_of n) handle (Err refusal.Closed))
    (sym is) (inl (record { none = refl; closed = refl }, refl)))

-- an empty store keeps what its handles name, which is nothing
pub keeps_none : (handle : ℕ) → Keeps [] [] handle
keeps_none handle = record {
  given = refl;
  others = λ other ne. refl;
  all_others = λ other ne. refl;
}

pub none_closed : {A V : Type 0} (named : List Slot → ℕ → Option V) (old new : Option (List Slot))
    (handle : ℕ) → named [] handle ≡ None → old ≡ None → new ≡ None
    → AnswersClose {A = A} named handle (slots_of old) (slots_of new) (Err refusal.Closed)
none_closed {A} named old new handle none was is =
    subst (λ (o : Option (List Slot)). AnswersClose {A = A} named handle (slots_of o) (slots_of new)
    (Err refusal.Closed)) (sym was)
    (subst (λ (n : Option (List Slot)). AnswersClose {A = A} named handle [] (slots_of n)
    (Err refusal.Closed)) (sym is) (record {
      closed = record { none = none; done = tt; refused = (refl, none) };
      others = keeps_none handle;
    }))

pub none_handed_in : {A : Type 0} (old new : Option (List Slot)) (handle : ℕ) → old ≡ None
    → AnswersCloseSeat {A = A} handle (slots_of old) (slots_of new) (Err refusal.Closed)
none_handed_in {A} old new handle was =
    subst (λ (o : Option (List Slot)). AnswersCloseSeat {A = A} handle (slots_of o) (slots_of new)
    (Err refusal.Closed)) (sym was) (record { closed = tt; refused = (refl, refl) })

pub none_ended : {A : Type 0} (adds : ℕ) (old new : Option (List Slot)) (handle : ℕ) → old ≡ None →
    new ≡ None
    → AnswersCloseShared {A = A} adds handle (slots_of old) (slots_of new) (Err refusal.Closed)
none_ended {A} adds old new handle was is =
    subst (λ (o : Option (List Slot)). AnswersCloseShared {A = A} adds handle (slots_of o) (slots_of new)
    (Err refusal.Closed)) (sym was)
    (subst (λ (n : Option (List Slot)). AnswersCloseShared {A = A} adds handle [] (slots_of n)
    (Err refusal.Closed)) (sym is) (record {
      closed = tt;
      refused = inl (refl, refl, refl);
      others = keeps_none handle;
    }))

-- nothing is moved out of an empty store
pub none_moved : {A : Type 0} (handle m : ℕ) (old new : Option (List Slot)) (to to' : List Slot) →
    old ≡ None
    → AnswersMove {A = A} handle m (slots_of old) to (slots_of new) to' (Err refusal.Closed)
none_moved {A} handle m old new to to' was =
    subst (λ (o : Option (List Slot)). AnswersMove {A = A} handle m (slots_of o) to (slots_of new) to'
    (Err refusal.Closed)) (sym was)
    (record { moved = tt; refused = inl (refl, (refl, refl, refl)) })

-- a call reads the cache that a handle names in the store that is owned
pub reads_there : {A : Type 0} (Reads : CountedCache → Result A Refusal → Type 0) (old : Option (List Slot))
    (held : List Slot) (handle : ℕ) (cache : CountedCache) (did : Result A Refusal) → old ≡ Some held
    → cache_at held handle ≡ Some cache → Reads cache did →
    AnswersOfCache Reads (slots_of old) handle did
reads_there Reads old held handle cache did was holds reads =
    in_store (λ o n. AnswersOfCache Reads o handle did) old old held held was was
    (inr (record { cache = cache; holds = holds; reads = reads }))

pub reads_none_there : {A : Type 0} (Reads : CountedCache → Result A Refusal → Type 0)
    (old : Option (List Slot)) (held : List Slot) (handle : ℕ) → old ≡ Some held →
    cache_at held handle ≡ None →
    AnswersOfCache Reads (slots_of old) handle (Err refusal.Closed)
reads_none_there Reads old held handle was none =
    in_store (λ o n. AnswersOfCache Reads o handle (Err refusal.Closed)) old old held held was was
    (inl (record { none = none; closed = refl }))

-- a call works on the cache that a handle names there
pub works_there : {A : Type 0} (Works : CountedCache → CountedCache → Result A Refusal → Type 0)
    (old new : Option (List Slot)) (held left : List Slot) (handle : ℕ) (cache after : CountedCache)
    (did : Result A Refusal) → old ≡ Some held → new ≡ Some left →
    cache_at held handle ≡ Some cache
    → left ≡ slice_set held handle (Own after) → Works cache after did →
    DoesToCache Works (slots_of old) (slots_of new) handle did
works_there Works old new held left handle cache after did was is holds leaves works =
    in_store (λ o n. DoesToCache Works o n handle did) old new held left was is
    (inr (record { cache = cache; after = after; holds = holds; leaves = leaves; works = works }))

pub works_on_none : {A : Type 0} (Works : CountedCache → CountedCache → Result A Refusal → Type 0)
    (old new : Option (List Slot)) (held left : List Slot) (handle : ℕ) → old ≡ Some held →
    new ≡ Some left → cache_at held handle ≡ None
    → left ≡ held →
    DoesToCache Works (slots_of old) (slots_of new) handle (Err refusal.Closed)
works_on_none Works old new held left handle was is none same =
    in_store (λ o n. DoesToCache Works o n handle (Err refusal.Closed)) old new held left was is
    (inl (record { none = none; closed = refl }, same))

-- a call works on the seat that a handle names there
pub works_at : {A : Type 0} (Works : CountedSeat → CountedSeat → Result A Refusal → Type 0)
    (old new : Option (List Slot)) (held left : List Slot) (handle : ℕ) (seat after : CountedSeat)
    (did : Result A Refusal) → old ≡ Some held → new ≡ Some left →
    seat_at held handle ≡ Some seat
    → left ≡ slice_set held handle (Seat after) → Works seat after did →
    DoesToSeat Works (slots_of old) (slots_of new) handle did
works_at Works old new held left handle seat after did was is holds leaves works =
    in_store (λ o n. DoesToSeat Works o n handle did) old new held left was is
    (inr (record { seat = seat; after = after; holds = holds; leaves = leaves; works = works }))

pub works_at_none : {A : Type 0} (Works : CountedSeat → CountedSeat → Result A Refusal → Type 0)
    (old new : Option (List Slot)) (held left : List Slot) (handle : ℕ) → old ≡ Some held →
    new ≡ Some left → seat_at held handle ≡ None
    → left ≡ held →
    DoesToSeat Works (slots_of old) (slots_of new) handle (Err refusal.Closed)
works_at_none Works old new held left handle was is none same =
    in_store (λ o n. DoesToSeat Works o n handle (Err refusal.Closed)) old new held left was is
    (inl (record { none = none; closed = refl }, same))
