-- What the keeper knows once it looked for a seat in vain.
use Rattle.std.proofs.Common.{◌≡◌, ◌≢◌, ◌∙◌, sym, ap, subst, ℕ, ◌<◌, List, [], ◌∷◌, ◌++◌, All}
use Rattle.atomic_table.specs.Table.{Step}
use Rattle.tsc_ffi_store.specs.declared.seats.kinds.AnyCache.{AnyCache}
use Rattle.tsc_ffi_store.specs.declared.seats.kinds.AnySeat.{AnySeat}
use Rattle.tsc_ffi_store.specs.Kinds.{number_of}
use Rattle.tsc_ffi_store.specs.declared.seats.return_slots.Known.{Known}
use Rattle.tsc_ffi_store.specs.ReturnSlots.{Returned, keeping}
use Rattle.tsc_ffi_store.specs.ReturnSteps.{At, seen_returned, sees_returned}
use Rattle.tsc_ffi_store.specs.Seating.{MissesOne}
use Rattle.tsc_ffi_store.proofs.Returning.{known_of}

-- a look that found the word 0 adds its slot to those that were missed
one_missed : (cache : AnyCache) (seats returned : ℕ) (was : Known) (st : Step Returned) (found : ℕ)
    (me me' : At) → me ≡ (keeping cache seats returned was.back was.missed, []) → found ≡ 0 →
    sees_returned st me found me' →
    me' ≡ (keeping cache seats returned was.back (was.missed ++ st.word ∷ []), [])
one_missed cache seats returned was st found me me' is none sees =
    sees.0 ∙ ap (λ (n : ℕ). (seen_returned me.0 st.word n, me.1)) none
    ∙ ap (λ (m : At). (record m.0 { missed = m.0.missed ++ st.word ∷ [] }, m.1)) is

pub still_keeps : (cache : AnyCache) (seats returned : ℕ) (was : Known) (st : Step Returned)
    (found : ℕ) (me me' : At) → me ≡ (keeping cache seats returned was.back was.missed, []) →
    found ≡ 0 → sees_returned st me found me' →
    me' ≡ (keeping cache seats returned was.back me'.0.missed, [])
still_keeps cache seats returned was st found me me' is none sees =
    let now = one_missed cache seats returned was st found me me' is none sees in
    now ∙ ap (λ (l : List ℕ). (keeping cache seats returned was.back l, []))
    (sym (ap (λ (m : At). m.0.missed) now))

pub looks_in_vain : (cache : AnyCache) (seats returned : ℕ) (was : Known) (st : Step Returned)
    (found : ℕ) (me me' : At) → me ≡ (keeping cache seats returned was.back was.missed, []) →
    returned < seats → st.word ≡ returned → found ≡ 0 → sees_returned st me found me' →
    MissesOne seats was me'.0
looks_in_vain cache seats returned was st found me me' is low word none sees = record {
  missing = record {
    number = st.word;
    low = subst (λ (n : ℕ). n < seats) (sym word) low;
    out = subst (λ (back : List AnySeat). All (λ (s : AnySeat). number_of s ≢ st.word) back)
        (known_of cache seats returned was.back was.missed me is) (sees.1 none);
  };
  looked = ap (λ (m : At). m.0.missed)
      (one_missed cache seats returned was st found me me' is none sees);
}
