-- What a call makes of the slot at a handle is what it makes of the store there, and nothing else
-- changes.
use Rattle.std.proofs.Common.{◌≡◌, refl, sym, ap, ◌∙◌, subst, ℕ, zero, suc, ◌<◌, List, [], ◌∷◌, length, set, rules}
use Rattle.std.proofs.lemmas.List.{length-set, get_or-set_same}
use Rattle.std.proofs.lemmas.Option.{slice_get-get_or, slice_get_within}
use Rattle.std.specs.Prelude.{◌≢◌, OnSome, Option, Some, None, slice_get, slice_set}
use Rattle.tsc_ffi_store.specs.declared.counts.CountedCache.{CountedCache}
use Rattle.tsc_ffi_store.specs.declared.store.Slot.{Slot}
use Rattle.tsc_ffi_store.specs.declared.store.Slot.TheVariants.{Own}
use Rattle.tsc_ffi_store.specs.Store.{cache_in, cache_at, Keeps}

comes : (items : List Slot) (n : ℕ) (after : Slot) → n < length items →
    slice_get (slice_set items n after) n ≡ Some after
comes items n after lt =
    slice_get-get_or (set items n after) n after
    (subst (λ (m : ℕ). n < m) (sym (length-set items n after)) lt) ∙
    ap Some (get_or-set_same items n after after lt)

stays : (items : List Slot) (n other : ℕ) (after : Slot) → other ≢ n →
    slice_get (slice_set items n after) other ≡ slice_get items other
stays [] n other after ne = refl
stays (x ∷ xs) zero zero after ne = absurd (ne refl)
stays (x ∷ xs) zero (suc other) after ne = refl
stays (x ∷ xs) (suc n) zero after ne = refl
stays (x ∷ xs) (suc n) (suc other) after ne = stays xs n other after (λ e. ne (ap suc e))

-- what holds of the slot before and after holds of what is at the handle
pub at_handle : (Q : Option Slot → Option Slot → Type 0) (items : List Slot) (n : ℕ)
    (e after : Slot) → slice_get items n ≡ Some e
    → Q (Some e) (Some after) → Q (slice_get items n) (slice_get (slice_set items n after) n)
at_handle Q items n e after there holds =
    subst (λ (x : Option Slot). Q x (slice_get (slice_set items n after) n)) (sym there)
    (subst (λ (x : Option Slot). Q (Some e) x)
    (sym (comes items n after (slice_get_within items n e there))) holds)

pub keeps_others : (items : List Slot) (n : ℕ) (after : Slot) →
    Keeps items (slice_set items n after) n
keeps_others items n after = record {
  given = length-set items n after;
  others = λ other ne. ap cache_in (stays items n other after ne);
  all_others = λ other ne. stays items n other after ne;
}

pub keeps_all : (items : List Slot) (n : ℕ) → Keeps items items n
keeps_all items n = record {
  given = refl;
  others = λ other ne. refl;
  all_others = λ other ne. refl;
}

-- what is laid where a cache was is there then
lies_there : (items : List Slot) (n : ℕ) (cache : CountedCache) (after : Slot) →
    cache_at items n ≡ Some cache → slice_get (slice_set items n after) n ≡ Some after
lies_there [] n cache after held = absurd (no_cache cache held)
  where
    no_cache : (cache : CountedCache) → None ≡ Some cache → ⊥
    no_cache cache e = search rules
lies_there (x ∷ xs) zero cache after held = refl
lies_there (x ∷ xs) (suc n) cache after held = lies_there xs n cache after held

pub cache_left : (items items' : List Slot) (n : ℕ) (cache after : CountedCache) →
    cache_at items n ≡ Some cache → items' ≡ slice_set items n (Own after) →
    cache_at items' n ≡ Some after
cache_left items items' n cache after held is = ap (λ (l : List Slot). cache_at l n) is ∙
    ap cache_in (lies_there items n cache (Own after) held)

pub if_some : {T : Type 0} {P : Type 0} (o : Option T) → P → OnSome o P
if_some None p = tt
if_some (Some x) p = p

pub when_some : {T : Type 0} {P : Type 0} (o : Option T) (x : T) → o ≡ Some x → OnSome o P → P
when_some {T} {P} o x is p = subst (λ (o' : Option T). OnSome o' P) is p
