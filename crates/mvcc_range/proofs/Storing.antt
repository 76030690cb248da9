-- The versions of a key, as transactions lay them down.
use Rattle.std.proofs.Common.{◌≡◌, ◌∙◌, ap, sym, refl, subst, inl, inr, List, [], ◌∷◌, Bool, true, false, if◌then◌else◌}
use Rattle.std.specs.List.{AllByRecursion}
use Rattle.std.specs.Str.{bytes_eq}
use Rattle.std.proofs.lemmas.Bool.{cases_Bool, both_ways}
use Rattle.tsc_time.proofs.TimeOrder.{is_before-itself, is_before-opposite, no_earlier-transitive}
use Rattle.timestamp_cache.specs.Words.{Time, is_before, Owner, KeyBytes}
use Rattle.mvcc_versions.specs.Versions.{is_written, Version, Write, stored, newest_time, IsAfter}
use Rattle.mvcc_range.specs.Serial.{Transaction}
use Rattle.mvcc_versions.proofs.Lists.{each}
use Rattle.mvcc_range.proofs.Placing.{all_stored}

-- No version stands behind one that is earlier.
abbrev pub AreNewestFirst : List Version → Type 0
AreNewestFirst [] = Unit {0}
AreNewestFirst (v ∷ vs) = AllByRecursion (λ (u : Version). is_before v.at u.at ≡ false) vs
    × AreNewestFirst vs

-- who is later than the newest is later than all
pub later_than_all : (t : Time) (vs : List Version) → AreNewestFirst vs → IsAfter (newest_time vs) t
    → AllByRecursion (λ (v : Version). is_before v.at t ≡ true) vs
later_than_all t [] order after = tt
later_than_all t (v ∷ vs) order after = (
  after,
  each (λ (u : Version). is_before v.at u.at ≡ false) (λ (u : Version). is_before u.at t ≡ true) vs
      (λ u none. elim (cases_Bool (is_before u.at t)) [
        | inl h ↦ h
        | inr n ↦ absurd (both_ways (is_before v.at t)
            (no_earlier-transitive t u.at v.at n none) after)
      ]) order.0,
)

-- a key that isn't written keeps its versions
pub stored_unwritten : (k : KeyBytes) (at : Time) (by : Owner) (ws : List Write) (vs : List Version)
    → is_written k ws ≡ false → stored k at by ws vs ≡ vs
stored_unwritten k at by [] vs h = refl
stored_unwritten k at by (w ∷ ws) vs h = elim (cases_Bool (bytes_eq w.key k)) [
  | inl same ↦ absurd (both_ways (is_written k (w ∷ ws)) h (ap (λ (b : Bool). if b then true else
      is_written k ws) same))
  | inr other ↦
      rw other (stored_unwritten k at by ws vs (sym (ap (λ (b : Bool). if b then true else
      is_written k ws) other) ∙ h))
]

-- what is laid down at a time when no version is later stands in front
stored_in_order : (k : KeyBytes) (at : Time) (by : Owner) (ws : List Write) (vs : List Version)
    → AllByRecursion (λ (u : Version). is_before at u.at ≡ false) vs → AreNewestFirst vs
    → AreNewestFirst (stored k at by ws vs)
stored_in_order k at by [] vs none order = order
stored_in_order k at by (w ∷ ws) vs none order = elim (cases_Bool (bytes_eq w.key k)) [
  | inl own ↦
      rw own (stored_in_order k at by ws (record { at = at; by = by; content = w.content } ∷ vs)
      (is_before-itself at, none) (none, order))
  | inr other ↦ rw other (stored_in_order k at by ws vs none order)
]

-- so the versions of each key stay the newest first
pub stored_newest_first : (k : KeyBytes) (at : Time) (by : Owner) (ws : List Write)
    (vs : List Version) → (is_written k ws ≡ true → IsAfter (newest_time vs) at) → AreNewestFirst vs
    → AreNewestFirst (stored k at by ws vs)
stored_newest_first k at by ws vs after order = elim (cases_Bool (is_written k ws)) [
  | inr n ↦ subst AreNewestFirst (sym (stored_unwritten k at by ws vs n)) order
  | inl w ↦ stored_in_order k at by ws vs
      (each (λ (u : Version). is_before u.at at ≡ true) (λ (u : Version). is_before at u.at
      ≡ false) vs (λ u earlier. is_before-opposite u.at at earlier) (later_than_all at vs order
      (after w))) order
]

-- What holds of each version's time and transaction holds of those before some writes, and of the
-- writes' own.
pub stored_parts : (Q : Time → Owner → Type 0) (k : KeyBytes) (at : Time) (by : Owner)
    (ws : List Write) (vs : List Version) → AllByRecursion (λ (v : Version). Q v.at v.by)
    (stored k at by ws vs)
    → AllByRecursion (λ (v : Version). Q v.at v.by) vs × (is_written k ws ≡ true → Q at by)
stored_parts Q k at by [] vs all = (all, λ w. absurd (let never : false ≡ true = w in cc))
stored_parts Q k at by (w ∷ ws) vs all = elim (cases_Bool (bytes_eq w.key k)) [
  | inl own ↦ let one : Version = record { at = at; by = by; content = w.content } in
      let rest =
      stored_parts Q k at by ws (one ∷ vs)
      (subst (λ (b : Bool). AllByRecursion (λ (v : Version). Q v.at v.by)
      (stored k at by ws (if b then one ∷ vs else vs))) own all) in
      (rest.0.1, λ x. rest.0.0)
  | inr other ↦ let one : Version = record { at = at; by = by; content = w.content } in
      let rest =
      stored_parts Q k at by ws vs
      (subst (λ (b : Bool). AllByRecursion (λ (v : Version). Q v.at v.by)
      (stored k at by ws (if b then one ∷ vs else vs))) other all) in
      (rest.0, λ x. rest.1 (sym (ap (λ (b : Bool). if b then true else is_written k ws) other) ∙ x))
]

-- What holds of each version of a key holds of each transaction that wrote it.
pub each_stored : (Q : Time → Owner → Type 0) (k : KeyBytes) (done : List Transaction)
    → AllByRecursion (λ (v : Version). Q v.at v.by) (all_stored done k)
    → AllByRecursion (λ (u : Transaction). is_written k u.writes ≡ true → Q u.at u.by) done
each_stored Q k [] all = tt
each_stored Q k (u ∷ us) all = let parts = stored_parts Q k u.at u.by u.writes (all_stored us k) all
    in (parts.1, each_stored Q k us parts.0)
