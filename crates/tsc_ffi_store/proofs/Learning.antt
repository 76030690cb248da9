-- What an owner learns of seats that came back, from the tokens up to the store.
use Rattle.std.proofs.Common.{◌≡◌, ◌⊎◌, ◌∙◌, inl, inr, refl, sym, ap, subst, Bool, true, false, true≢false, ℕ, zero, suc, ◌<◌, List, [], ◌++◌, append-nil, arith}
use Rattle.std.specs.Prelude.{Option, Some, None, slice_get, slice_set}
use Rattle.atomic_table.specs.Seated.{TableId}
use Rattle.atomic_table.specs.declared.shared.Seat.{Seat as Token}
use Rattle.tsc_ffi_store.specs.declared.seats.kinds.AnyCache.{AnyCache}
use Rattle.tsc_ffi_store.specs.declared.seats.kinds.AnySeat.{AnySeat}
use Rattle.tsc_shared.specs.Seats.{is_seat_count}
use Rattle.tsc_ffi_store.specs.declared.seats.return_slots.Known.{Known}
use Rattle.tsc_ffi_store.specs.Kinds.{seats_of}
use Rattle.tsc_ffi_store.specs.declared.store.Slot.{Slot}
use Rattle.tsc_ffi_store.specs.declared.store.Slot.TheVariants.{Closed, Own, Shared, Seat}
use Rattle.tsc_ffi_store.specs.SameTable.{SwapsIfSame}
use Rattle.tsc_ffi_store.specs.ReturnSlots.{Returned, spare, keeping, also_back}
use Rattle.tsc_ffi_store.specs.ReturnSteps.{At, LearnsBy}
use Rattle.tsc_ffi_store.specs.Owners.{OwnerView, LearnsOf, MissesSeat}
use Rattle.tsc_ffi_store.specs.SeatCalls.{Learns, LearnsIf, LearnsAt}
use Rattle.tsc_ffi_store.specs.Store.{shared_of}
use Rattle.tsc_ffi_store.specs.Seating.{SharedHandleView, IsKeeper, KnowsReturned, MissesOne}
use Rattle.tsc_ffi_store.proofs.Returning.{by_itself, known_of}
use Rattle.tsc_ffi_store.proofs.AtHandle.{at_handle, keeps_others, keeps_all}

-- ---- the tokens

-- a token that knows nothing adds nothing
same_known : (v : Known) → also_back v spare ≡ v
same_known v = ap (λ (l : List AnySeat). record v { back = l }) (append-nil v.back)

-- The keeper takes in what the spare token is, once it was swapped with one that came.
pub learns_by : (table : TableId) (token other token' other' : Token Returned Known) (me me' : At) →
    other.table_id ≡ table → other.me ≡ (spare, []) → SwapsIfSame token other token' other' →
    me' ≡ (also_back me.0 other'.me.0, me.1) → LearnsBy table token.table_id token.me.0 me me'
learns_by table token other token' other' me me' its is (inl swap) now = inl (
  sym its ∙ sym swap.0,
  now ∙ ap (λ (o : Token Returned Known). (also_back me.0 o.me.0, me.1)) swap.2,
)
learns_by table token other token' other' me me' its is (inr keep) now = inr (
  (λ e. keep.0 (sym (its ∙ e))),
  now ∙ ap (λ (o : Token Returned Known). (also_back me.0 o.me.0, me.1)) keep.2 ∙
      ap (λ (m : At). (also_back me.0 m.0, me.1)) is ∙ ap (λ (v : Known). (v, me.1))
      (same_known me.0),
)

-- what is joined is of the keeper's table, and has nothing in hand
pub joined_table : (table : TableId) (token other token' other' : Token Returned Known) →
    other.table_id ≡ table → SwapsIfSame token other token' other' → other'.table_id ≡ table
joined_table table token other token' other' its (inl swap) =
    ap (λ (o : Token Returned Known). o.table_id) swap.2 ∙ swap.0 ∙ its
joined_table table token other token' other' its (inr keep) =
    ap (λ (o : Token Returned Known). o.table_id) keep.2 ∙ its

pub joined_free : (token other token' other' : Token Returned Known) → token.me.1 ≡ [] →
    other.me ≡ (spare, []) → SwapsIfSame token other token' other' → other'.me.1 ≡ []
joined_free token other token' other' free is (inl swap) =
    ap (λ (o : Token Returned Known). o.me.1) swap.2 ∙ free
joined_free token other token' other' free is (inr keep) =
    ap (λ (o : Token Returned Known). o.me.1) keep.2 ∙ ap (λ (m : At). m.1) is

-- ---- the owner

pub keeper_learns : (cache : AnyCache) (table its : TableId) (seats returned : ℕ) (w : Known)
    (me me' : At) → me ≡ (keeping cache seats returned me.0.back me.0.missed, []) →
    LearnsBy table its w me me' →
    me' ≡ (keeping cache seats returned me'.0.back me'.0.missed, [])
keeper_learns cache table its seats returned w me me' known (inl reported) =
    by_itself cache seats returned (me.0.back ++ w.back) me.0.missed me'
    (reported.1 ∙ ap (λ (m : At). (also_back m.0 w, m.1)) known)
keeper_learns cache table its seats returned w me me' known (inr reported) =
    by_itself cache seats returned me.0.back me.0.missed me' (reported.1 ∙ known)

-- an owner, by what its keeper's token knows
abbrev pub owner_of : AnyCache → TableId → At → OwnerView
owner_of cache table me = record {
  cache = cache;
  returns = table;
  back = me.0.back;
  missed = me.0.missed;
}

pub owner_learns : (cache : AnyCache) (table its : TableId) (w : Known) (me me' : At) →
    LearnsBy table its w me me' →
    LearnsOf its w.back (owner_of cache table me) (owner_of cache table me')
owner_learns cache table its w me me' (inl reported) = inl
    (reported.0, ap (owner_of cache table) reported.1)
owner_learns cache table its w me me' (inr reported) = inr
    (reported.0, ap (owner_of cache table) reported.1)

-- an owner whose keeper looked in vain
pub owner_misses : (cache key : AnyCache) (table slots its : TableId) (me me' : At)
    (seats returned : ℕ) → seats ≡ seats_of cache →
    KnowsReturned key slots its me' seats returned me.0.back → MissesOne seats me.0 me'.0 →
    MissesSeat (owner_of cache table me) (owner_of cache table me')
owner_misses cache key table slots its me me' seats returned all knows misses = record {
  missing = record {
    number = misses.missing.number;
    low = subst (λ (n : ℕ). misses.missing.number < n) all misses.missing.low;
    out = misses.missing.out;
  };
  looked = ap (λ (b : List AnySeat). record (owner_of cache table me') { back = b })
      (known_of key seats returned me.0.back me'.0.missed me' knows.known)
      ∙ ap (λ (l : List ℕ). record (owner_of cache table me) { missed = l }) misses.looked;
}

-- a keeper knows what its view has
pub keeps_itself : (shared : SharedHandleView) (table : TableId) (me : At) (seats returned : ℕ)
    (back : List AnySeat) → IsKeeper shared table me seats returned back →
    IsKeeper shared table me seats returned me.0.back
keeps_itself shared table me seats returned back k = record {
  its_table = k.its_table;
  all = k.all;
  known = by_itself shared.cache seats returned back me.0.missed me k.known;
  some = k.some;
  any = k.any;
}

-- a keeper that learned is one
pub keeps_on : (shared : SharedHandleView) (slots table table' its : TableId) (w : Known)
    (me me' : At) (seats returned : ℕ) →
    IsKeeper shared table me seats returned me.0.back → table' ≡ table →
    LearnsBy slots its w me me' → IsKeeper shared table' me' seats returned me'.0.back
keeps_on shared slots table table' its w me me' seats returned k same learns = record {
  its_table = same ∙ k.its_table;
  all = k.all;
  known = keeper_learns shared.cache slots its seats returned w me me' k.known learns;
  some = k.some;
  any = k.any;
}

-- a keeper that looked on is one, and knows the same seats
pub looks_on : (shared : SharedHandleView) (slots table table' : TableId) (me me' : At)
    (seats returned returned' : ℕ) → IsKeeper shared table me seats returned me.0.back →
    slots ≡ shared.table → KnowsReturned shared.cache slots table' me' seats returned' me.0.back →
    IsKeeper shared table' me' seats returned' me'.0.back × (me'.0.back ≡ me.0.back)
looks_on shared slots table table' me me' seats returned returned' k same knows = (
  record {
    its_table = knows.its_table ∙ same;
    all = k.all;
    known = by_itself shared.cache seats returned' me.0.back me'.0.missed me' knows.known;
    some = knows.some;
    any = k.any;
  },
  known_of shared.cache seats returned' me.0.back me'.0.missed me' knows.known,
)

-- a cache that was opened has seats
pub some_seats : (n : ℕ) → is_seat_count n ≡ true → 0 < n
some_seats zero is = absurd (true≢false (sym is))
some_seats (suc n) is = omega arith

-- ---- the slot

owner_or : OwnerView → Slot → OwnerView
owner_or d Closed = d
owner_or d (Own cache) = d
owner_or d (Shared owner) = owner
owner_or d (Seat seat) = d

pub slot_learns : (returns : TableId) (seats : List AnySeat) (old new : OwnerView) →
    LearnsOf returns seats old new → Learns returns seats (Shared old) (Shared new)
unfolding owner_or
slot_learns returns seats old new (inl reported) =
    inl (record { owner = old; held = refl; its = reported.0; knows = ap Shared reported.1 })
slot_learns returns seats old new (inr reported) = inr (record {
  other = λ owner is its. reported.0 (ap (λ (s : Slot). (owner_or old s).returns) is ∙ its);
  same = ap Shared reported.1;
})

is_some : Option OwnerView → Bool
is_some None = false
is_some (Some owner) = true

pub nobody_learns : (returns : TableId) (seats : List AnySeat) (slot : Slot) →
    shared_of slot ≡ None → Learns returns seats slot slot
unfolding is_some
nobody_learns returns seats slot none = inr (record {
  other = λ owner is its. true≢false (ap is_some (sym (ap shared_of is) ∙ none));
  same = refl;
})

-- ---- the store

pub learns_there : (returns : TableId) (seats : List AnySeat) (old new : List Slot) (k : ℕ)
    (e after : Slot) → slice_get old k ≡ Some e → new ≡ slice_set old k after →
    Learns returns seats e after → LearnsAt returns seats old new k
learns_there returns seats old new k e after there is learns =
    subst (λ (l : List Slot). LearnsAt returns seats old l k) (sym is) (record {
      there = at_handle (λ was then. LearnsIf returns seats was then) old k e after there
          (after, refl, learns);
      others = keeps_others old k after;
    })

pub nobody_learns_there : (returns : TableId) (seats : List AnySeat) (old new : List Slot)
    (k : ℕ) → ((slice_get old k ≡ None) ⊎ (slice_get old k ≡ Some Closed)) → new ≡ old →
    LearnsAt returns seats old new k
nobody_learns_there returns seats old new k nothing is =
    subst (λ (l : List Slot). LearnsAt returns seats old l k) (sym is)
    (record { there = there nothing; others = keeps_all old k })
  where
    there : ((slice_get old k ≡ None) ⊎ (slice_get old k ≡ Some Closed)) →
        LearnsIf returns seats (slice_get old k) (slice_get old k)
    there (inl none) =
        subst (λ (o : Option Slot). LearnsIf returns seats o o) (sym none) refl
    there (inr closed) = subst (λ (o : Option Slot). LearnsIf returns seats o o) (sym closed)
        (Closed, refl, nobody_learns returns seats Closed refl)
