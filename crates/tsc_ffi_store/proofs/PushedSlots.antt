-- What is laid behind all that there is has the next handle.
use Rattle.std.proofs.Common.{◌≡◌, ◌∙◌, refl, sym, ap, subst, ℕ, List, [], ◌∷◌, ◌++◌, length}
use Rattle.std.proofs.lemmas.List.{append_assoc}
use Rattle.tsc_ffi_store.specs.declared.store.Slot.{Slot}
use Rattle.tsc_ffi_store.specs.OpenHandles.{named_by, AreOpen, PushesSlot}
use Rattle.tsc_ffi_store.proofs.OpenHandles.{open_more, named_more, named_long}

-- there are as many handles as the next one says
pub long_as_next : (hs : List ℕ) (ss : List Slot) (n : ℕ) (named : List Slot) →
    named_by hs ss n ≡ named → length named ≡ n
long_as_next hs ss n named is = sym (ap length is) ∙ named_long hs ss n

pub pushed_open : (s : Slot) (hs : List ℕ) (ss : List Slot) (n : ℕ) (hs' : List ℕ)
    (ss' : List Slot) (n' : ℕ) → AreOpen hs ss n → PushesSlot s hs ss n hs' ss' n' →
    AreOpen hs' ss' n'
pushed_open s hs ss n hs' ss' n' open_ pushes =
    rw (pushes.handles_are, pushes.slots_are, pushes.next_is) (open_more hs ss n s open_)

pub pushed_named : (s : Slot) (hs : List ℕ) (ss : List Slot) (n : ℕ) (hs' : List ℕ)
    (ss' : List Slot) (n' : ℕ) (named : List Slot) → AreOpen hs ss n → named_by hs ss n ≡ named →
    PushesSlot s hs ss n hs' ss' n' → named_by hs' ss' n' ≡ named ++ s ∷ []
pushed_named s hs ss n hs' ss' n' named open_ is pushes =
    rw (pushes.handles_are, pushes.slots_are, pushes.next_is)
    (named_more hs ss n s open_ ∙ ap (λ (l : List Slot). l ++ s ∷ []) is)

-- the same from lists that are as these
pub pushes_on : (s : Slot) (hs hs₀ : List ℕ) (ss ss₀ : List Slot) (n : ℕ) (hs' : List ℕ)
    (ss' : List Slot) (n' : ℕ) → hs₀ ≡ hs → ss₀ ≡ ss → PushesSlot s hs₀ ss₀ n hs' ss' n' →
    PushesSlot s hs ss n hs' ss' n'
pushes_on s hs hs₀ ss ss₀ n hs' ss' n' first second pushes =
    subst (λ (l : List ℕ). PushesSlot s l ss n hs' ss' n') first
    (subst (λ (l : List Slot). PushesSlot s hs₀ l n hs' ss' n') second pushes)

-- Slots are laid, and these are left: with them they are all.
pub record IsPushing (hs : List ℕ) (ss : List Slot) (n : ℕ) (rest all : List Slot) : Type 0 where
  pub open_ : AreOpen hs ss n
  pub named : named_by hs ss n ++ rest ≡ all

pub one_pushed : (s : Slot) (hs : List ℕ) (ss : List Slot) (n : ℕ) (hs' : List ℕ) (ss' : List Slot)
    (n' : ℕ) (rest all : List Slot) → IsPushing hs ss n (s ∷ rest) all →
    PushesSlot s hs ss n hs' ss' n' → IsPushing hs' ss' n' rest all
one_pushed s hs ss n hs' ss' n' rest all so_far pushes = record {
  open_ = pushed_open s hs ss n hs' ss' n' so_far.open_ pushes;
  named = ap (λ (l : List Slot). l ++ rest)
      (pushed_named s hs ss n hs' ss' n' (named_by hs ss n) so_far.open_ refl pushes) ∙
      append_assoc (named_by hs ss n) (s ∷ []) rest ∙ so_far.named;
}
