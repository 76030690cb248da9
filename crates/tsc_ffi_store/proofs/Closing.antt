-- What is closed at the place of a handle is closed at the handle.
use Rattle.std.proofs.Common.{◌≡◌, ◌∙◌, refl, sym, ap, subst, inl, inr, ℕ, List}
use Rattle.std.specs.Prelude.{Option, Some, None, Result, Ok, Err, slice_get, slice_set}
use Rattle.tsc_ffi_store.specs.declared.refusal.Refusal.{Refusal}
use Rattle.tsc_ffi_store.specs.declared.refusal.Refusal.TheVariants as refusal
use Rattle.tsc_ffi_store.specs.declared.store.Slot.{Slot}
use Rattle.tsc_ffi_store.specs.Store.{LetsGo, AnswersClose, Keeps, shared_of, shared_in, shared_at}
use Rattle.tsc_ffi_store.specs.SeatCalls.{ClosesShared, EndsShared, AnswersCloseShared}
use Rattle.tsc_ffi_store.proofs.AtHandle.{at_handle, keeps_others, keeps_all}

-- what a handle names, of a kind
abbrev pub At : {V : Type 0} → (Option Slot → Option V) → List Slot → ℕ → Option V
At held slots handle = held (slice_get slots handle)

pub closed_there : {A V : Type 0} (held : Option Slot → Option V) (old new : List Slot) (k : ℕ)
    (e after : Slot) (did : Result A Refusal) → slice_get old k ≡ Some e →
    new ≡ slice_set old k after → LetsGo (held (Some e)) (held (Some after)) did →
    AnswersClose (At held) k old new did
closed_there {A} {V} held old new k e after did there is closes =
    subst (λ (l : List Slot). AnswersClose (At held) k old l did) (sym is) (record {
      closed = at_handle (λ was then. LetsGo (held was) (held then) did) old k e after there closes;
      others = keeps_others old k after;
    })

pub none_closed_there : {A V : Type 0} (held : Option Slot → Option V) (old new : List Slot)
    (k : ℕ) → held (slice_get old k) ≡ None → new ≡ old →
    AnswersClose {A = A} (At held) k old new (Err refusal.Closed)
none_closed_there {A} {V} held old new k none is =
    subst (λ (l : List Slot). AnswersClose {A = A} (At held) k old l (Err refusal.Closed)) (sym is)
    (record {
      closed = record { none = none; done = tt; refused = (refl, none) };
      others = keeps_all old k;
    })

pub ended_there : {A : Type 0} (adds : ℕ) (old new : List Slot) (k : ℕ) (e after : Slot)
    (did : Result A Refusal) → slice_get old k ≡ Some e → new ≡ slice_set old k after →
    slice_set old k e ≡ old → EndsShared adds e after did → AnswersCloseShared adds k old new did
ended_there {A} adds old new k e after (Ok done) there is same ends =
    subst (λ (l : List Slot). AnswersCloseShared adds k old l (Ok done)) (sym is) (record {
      closed = at_handle (λ was then. ClosesShared (shared_in was) (shared_in then) adds) old k e
          after there ends.closed;
      refused = tt;
      others = keeps_others old k after;
    })
ended_there {A} adds old new k e after (Err why) there is same ends = record {
  closed = tt;
  refused = elim ends.refused [
    | inl none ↦ inl (
      none.0,
      ap shared_in there ∙ none.1,
      is ∙ ap (slice_set old k) none.2 ∙ same,
    )
    | inr stays ↦ inr (
      stays.0,
      record {
        owner = stays.1.owner;
        after = stays.1.after;
        holds = ap shared_in there ∙ ap shared_of stays.1.held;
        misses = stays.1.misses;
        leaves = is ∙ ap (slice_set old k) stays.1.left;
      },
    )
  ];
  others = subst (λ (l : List Slot). Keeps old l k) (sym is) (keeps_others old k after);
}

pub none_ended_there : {A : Type 0} (adds : ℕ) (old new : List Slot) (k : ℕ) →
    shared_at old k ≡ None → new ≡ old →
    AnswersCloseShared {A = A} adds k old new (Err refusal.Closed)
none_ended_there {A} adds old new k none is =
    subst (λ (l : List Slot). AnswersCloseShared {A = A} adds k old l (Err refusal.Closed)) (sym is)
    (record { closed = tt; refused = inl (refl, none, refl); others = keeps_all old k })
