-- What stands at the place of a handle is what the handle names, and what is done there is done to
-- what it names.
use Rattle.std.proofs.Common.{◌≡◌, ◌⊎◌, ◌∙◌, inl, inr, sym, ap, subst}
use Rattle.std.proofs.Common.{ℕ, ◌<◌, ◌≤◌, List, length, get_or, set, arith}
use Rattle.std.specs.Prelude.{◌≢◌, Option, Some, None, IfSome, IfNone, slice_get, slice_set}
use Rattle.std.proofs.lemmas.List.{set-get_or}
use Rattle.tsc_ffi_store.specs.declared.store.Slot.{Slot}
use Rattle.tsc_ffi_store.specs.declared.counts.CountedSeat.{CountedSeat}
use Rattle.tsc_ffi_store.specs.declared.store.Slot.TheVariants.{Closed, Seat}
use Rattle.tsc_ffi_store.specs.OpenHandles.{named_by, AreOpen, StandsThere, IsNotOpen, IsPlaceOf}
use Rattle.tsc_ffi_store.specs.Store.{cache_in, cache_of, cache_at, seat_in, seat_of, seat_at}
use Rattle.tsc_ffi_store.specs.Store.{shared_in, shared_of, shared_at}
use Rattle.tsc_ffi_store.specs.SeatCalls.{NamesNone, NamesSome}
use Rattle.tsc_ffi_store.proofs.OpenHandles.{named_there, named_changed, named_nowhere}

-- A slot stands at the place of a handle.
pub record IsThere (hs : List ℕ) (ss : List Slot) (n p k : ℕ) (e : Slot) (named : List Slot) : Type
    0 where
  pub there : slice_get named k ≡ Some e
  pub changed : (w : Slot) → named_by hs (set ss p w) n ≡ slice_set named k w
  pub as_it_was : named_by hs (set ss p e) n ≡ named

stands_there : (hs : List ℕ) (ss : List Slot) (n p k : ℕ) → AreOpen hs ss n → p < length ss →
    IsPlaceOf hs k p → StandsThere hs k p
stands_there hs ss n p k open_ within (inl stands) = stands
stands_there hs ss n p k open_ within (inr none) =
    absurd (omega (arith, none.behind, open_.long, within))

is_not_open : (hs : List ℕ) (ss : List Slot) (n p k : ℕ) → AreOpen hs ss n → length ss ≤ p →
    IsPlaceOf hs k p → IsNotOpen hs k p
is_not_open hs ss n p k open_ past (inl stands) =
    absurd (omega (arith, stands.within, open_.long, past))
is_not_open hs ss n p k open_ past (inr none) = none

pub is_there : (hs : List ℕ) (ss : List Slot) (n p k : ℕ) (e : Slot) (named : List Slot) →
    AreOpen hs ss n → named_by hs ss n ≡ named → IsPlaceOf hs k p → p < length ss →
    e ≡ get_or ss p e → IsThere hs ss n p k e named
is_there hs ss n p k e named open_ view_is place within at =
    let stands = stands_there hs ss n p k open_ within place in
    record {
      there = ap (λ (l : List Slot). slice_get l k) (sym view_is) ∙
          named_there hs ss n p k e open_ stands at;
      changed = λ w. named_changed hs ss n p k w open_ stands ∙
          ap (λ (l : List Slot). slice_set l k w) view_is;
      as_it_was = ap (λ (l : List Slot). named_by hs l n)
          (ap (set ss p) at ∙ set-get_or ss p e) ∙ view_is;
    }

-- ---- where nothing stands

pub nothing_there : (hs : List ℕ) (ss : List Slot) (n p k : ℕ) (named : List Slot) →
    AreOpen hs ss n → named_by hs ss n ≡ named → IsPlaceOf hs k p → length ss ≤ p →
    (slice_get named k ≡ None) ⊎ (slice_get named k ≡ Some Closed)
nothing_there hs ss n p k named open_ view_is place past =
    subst (λ (l : List Slot). (slice_get l k ≡ None) ⊎ (slice_get l k ≡ Some Closed)) view_is
    (named_nowhere hs ss n p k (is_not_open hs ss n p k open_ past place))

pub no_cache_there : (hs : List ℕ) (ss : List Slot) (n p k : ℕ) (named : List Slot) →
    AreOpen hs ss n → named_by hs ss n ≡ named → IsPlaceOf hs k p → length ss ≤ p →
    cache_at named k ≡ None
no_cache_there hs ss n p k named open_ view_is place past =
    elim (nothing_there hs ss n p k named open_ view_is place past)
    [ inl none ↦ ap cache_in none | inr closed ↦ ap cache_in closed ]

pub no_seat_there : (hs : List ℕ) (ss : List Slot) (n p k : ℕ) (named : List Slot) →
    AreOpen hs ss n → named_by hs ss n ≡ named → IsPlaceOf hs k p → length ss ≤ p →
    seat_at named k ≡ None
no_seat_there hs ss n p k named open_ view_is place past =
    elim (nothing_there hs ss n p k named open_ view_is place past)
    [ inl none ↦ ap seat_in none | inr closed ↦ ap seat_in closed ]

pub no_shared_there : (hs : List ℕ) (ss : List Slot) (n p k : ℕ) (named : List Slot) →
    AreOpen hs ss n → named_by hs ss n ≡ named → IsPlaceOf hs k p → length ss ≤ p →
    shared_at named k ≡ None
no_shared_there hs ss n p k named open_ view_is place past =
    elim (nothing_there hs ss n p k named open_ view_is place past)
    [ inl none ↦ ap shared_in none | inr closed ↦ ap shared_in closed ]

-- ---- whether a handle names something

pub some_named : (hs : List ℕ) (ss : List Slot) (n p k : ℕ) (e : Slot) (named : List Slot) →
    IsThere hs ss n p k e named → e ≢ Closed → NamesSome named k
some_named hs ss n p k e named at ne = (e, at.there, ne)

pub closed_named : (hs : List ℕ) (ss : List Slot) (n p k : ℕ) (e : Slot) (named : List Slot) →
    IsThere hs ss n p k e named → e ≡ Closed → NamesNone named k
closed_named hs ss n p k e named at closed = (
  ap cache_in at.there ∙ ap cache_of closed,
  ap shared_in at.there ∙ ap shared_of closed,
  ap seat_in at.there ∙ ap seat_of closed,
)

pub none_named : (hs : List ℕ) (ss : List Slot) (n p k : ℕ) (named : List Slot) →
    AreOpen hs ss n → named_by hs ss n ≡ named → IsPlaceOf hs k p → length ss ≤ p →
    NamesNone named k
none_named hs ss n p k named open_ view_is place past = (
  no_cache_there hs ss n p k named open_ view_is place past,
  no_shared_there hs ss n p k named open_ view_is place past,
  no_seat_there hs ss n p k named open_ view_is place past,
)

-- ---- what is taken

-- what became of the slot that stood there
abbrev pub Takes : Option Slot → Slot → Slot → Type 0
Takes result e after = IfSome result (λ s. (s ≡ e) × (s ≢ Closed) × (after ≡ Closed))

abbrev pub Leaves : Option Slot → Slot → Slot → Type 0
Leaves result e after = IfNone result ((e ≡ Closed) × (after ≡ e))

pub taken_there : (hs : List ℕ) (ss : List Slot) (n p k : ℕ) (e after : Slot) (named : List Slot)
    (result : Option Slot) → IsThere hs ss n p k e named → Takes result e after →
    IfSome result (λ s. (slice_get named k ≡ Some s) × (s ≢ Closed) ×
    (named_by hs (set ss p after) n ≡ slice_set named k Closed))
taken_there hs ss n p k e after named None at takes = tt
taken_there hs ss n p k e after named (Some s) at takes = (
  at.there ∙ ap Some (sym takes.0),
  takes.1,
  at.changed after ∙ ap (slice_set named k) takes.2,
)

pub left_there : (hs : List ℕ) (ss : List Slot) (n p k : ℕ) (e after : Slot) (named : List Slot)
    (result : Option Slot) → IsThere hs ss n p k e named → Leaves result e after →
    IfNone result (named_by hs (set ss p after) n ≡ named)
left_there hs ss n p k e after named None at left =
    ap (λ (w : Slot). named_by hs (set ss p w) n) left.1 ∙ at.as_it_was
left_there hs ss n p k e after named (Some s) at left = tt

pub no_cache_left : (hs : List ℕ) (ss : List Slot) (n p k : ℕ) (e after : Slot) (named : List Slot)
    (result : Option Slot) → IsThere hs ss n p k e named → Leaves result e after →
    IfNone result (cache_at named k ≡ None)
no_cache_left hs ss n p k e after named None at left =
    ap cache_in at.there ∙ ap cache_of left.0
no_cache_left hs ss n p k e after named (Some s) at left = tt

pub no_seat_left : (hs : List ℕ) (ss : List Slot) (n p k : ℕ) (e after : Slot) (named : List Slot)
    (result : Option Slot) → IsThere hs ss n p k e named → Leaves result e after →
    IfNone result (seat_at named k ≡ None)
no_seat_left hs ss n p k e after named None at left =
    ap seat_in at.there ∙ ap seat_of left.0
no_seat_left hs ss n p k e after named (Some s) at left = tt

pub no_shared_left : (hs : List ℕ) (ss : List Slot) (n p k : ℕ) (e after : Slot)
    (named : List Slot) (result : Option Slot) → IsThere hs ss n p k e named →
    Leaves result e after → IfNone result (shared_at named k ≡ None)
no_shared_left hs ss n p k e after named None at left =
    ap shared_in at.there ∙ ap shared_of left.0
no_shared_left hs ss n p k e after named (Some s) at left = tt

-- ---- the seat that is taken

abbrev pub TakesSeat : Option CountedSeat → Slot → Slot → Type 0
TakesSeat result e after = IfSome result (λ s. (e ≡ Seat s) × (after ≡ Closed))

pub seat_taken_there : (hs : List ℕ) (ss : List Slot) (n p k : ℕ) (e after : Slot)
    (named : List Slot) (result : Option CountedSeat) → IsThere hs ss n p k e named →
    TakesSeat result e after → IfSome result (λ s. (slice_get named k ≡ Some (Seat s)) ×
    (named_by hs (set ss p after) n ≡ slice_set named k Closed))
seat_taken_there hs ss n p k e after named None at takes = tt
seat_taken_there hs ss n p k e after named (Some s) at takes = (
  at.there ∙ ap Some takes.0,
  at.changed after ∙ ap (slice_set named k) takes.1,
)

pub no_seat_stands : (hs : List ℕ) (ss : List Slot) (n p k : ℕ) (e : Slot) (named : List Slot)
    (result : Option CountedSeat) → IsThere hs ss n p k e named →
    IfNone result (seat_of e ≡ None) → IfNone result (seat_at named k ≡ None)
no_seat_stands hs ss n p k e named None at none = ap seat_in at.there ∙ none
no_seat_stands hs ss n p k e named (Some s) at none = tt

pub seat_left_there : (hs : List ℕ) (ss : List Slot) (n p k : ℕ) (e after : Slot)
    (named : List Slot) (result : Option CountedSeat) → IsThere hs ss n p k e named →
    IfNone result (after ≡ e) → IfNone result (named_by hs (set ss p after) n ≡ named)
seat_left_there hs ss n p k e after named None at left =
    ap (λ (w : Slot). named_by hs (set ss p w) n) left ∙ at.as_it_was
seat_left_there hs ss n p k e after named (Some s) at left = tt
