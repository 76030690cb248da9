-- One slot more behind all that there are has the handle of how many there were.
use Rattle.std.proofs.Common.{◌≡◌, refl, ap, ℕ, zero, suc, List, [], ◌∷◌, ◌++◌, length, length-append}
use Rattle.std.specs.Prelude.{◌≢◌, Some, None, slice_get}
use Rattle.tsc_cache.specs.CacheView.{CacheView, RepresentsState}
use Rattle.tsc_cache.specs.ConfigView.{ConfigView}
use Rattle.tsc_cache.specs.State.{opening}
use Rattle.tsc_ffi_store.specs.declared.store.Slot.{Slot}
use Rattle.tsc_ffi_store.specs.declared.store.Slot.TheVariants.{Own}
use Rattle.tsc_ffi_store.specs.CacheCalls.{Opens}
use Rattle.tsc_ffi_store.specs.Counts.{no_counts}
use Rattle.tsc_ffi_store.specs.Store.{cache_in, cache_at, GivesNext}

none_yet : (items : List Slot) → slice_get items (length items) ≡ None
none_yet [] = refl
none_yet (e ∷ items) = none_yet items

there_then : (items : List Slot) (e : Slot) → slice_get (items ++ e ∷ []) (length items) ≡ Some e
there_then [] e = refl
there_then (x ∷ items) e = there_then items e

as_before : (items : List Slot) (e : Slot) (other : ℕ) → other ≢ length items →
    slice_get (items ++ e ∷ []) other ≡ slice_get items other
as_before [] e zero ne = absurd (ne refl)
as_before [] e (suc other) ne = refl
as_before (x ∷ items) e zero ne = refl
as_before (x ∷ items) e (suc other) ne = as_before items e other (λ same. ne (ap suc same))

pub opens_next : (items more : List Slot) (n : ℕ) (cache : CacheView) (config : ConfigView) →
    n ≡ length items → more ≡ items ++ Own (record { cache = cache; counts = no_counts }) ∷ [] →
    RepresentsState cache config (opening config)
    → Opens (cache_at items n) (cache_at more n) config
opens_next items more n cache config handle pushed stands = rw (handle, pushed) record {
  cache = cache;
  none = ap cache_in (none_yet items);
  holds = ap cache_in (there_then items (Own (record { cache = cache; counts = no_counts })));
  stands = stands;
}

pub gives_next : (items more : List Slot) (n : ℕ) (e : Slot) → n ≡ length items →
    more ≡ items ++ e ∷ [] → GivesNext items more n
gives_next items more n e handle pushed = rw (handle, pushed) record {
  next = refl;
  given = length-append items (e ∷ []);
  others = λ other ne. ap cache_in (as_before items e other ne);
  all_others = λ other ne. as_before items e other ne;
}
