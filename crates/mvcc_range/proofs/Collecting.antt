-- Old versions that are dropped: what is kept of a key says the same from a time on.
use Rattle.std.proofs.Common.{◌≡◌, ◌∙◌, ap, sym, refl, subst, inl, inr, List, [], ◌∷◌, Bool, true, false, not, if◌then◌else◌, Some, None}
use Rattle.std.specs.List.{AllByRecursion}
use Rattle.std.specs.Str.{bytes_eq}
use Rattle.std.proofs.lemmas.Bool.{cases_Bool, both_ways}
use Rattle.tsc_time.specs.Time.{later}
use Rattle.tsc_time.proofs.TimeOrder.{
  is_before-itself,
  is_before-opposite,
  is_before-transitive,
  no_earlier-transitive,
  later-reports,
}
use Rattle.timestamp_cache.specs.Words.{Time, is_before, Owner, KeyBytes}
use Rattle.mvcc_versions.specs.Versions.{Content, Version, Write, after_writes, stored, kept_from, unless_deletion, newest_time, IsAfter}
use Rattle.mvcc_versions.proofs.Lists.{each}
use Rattle.mvcc_range.proofs.Placing.{found, found_stored, upto}
use Rattle.mvcc_range.proofs.Storing.{AreNewestFirst}

-- ---- times

-- a test that each time before the threshold passes
abbrev pub PassesBefore : Time → (Time → Bool) → Type 0
PassesBefore threshold passes = (u : Time) → is_before u threshold ≡ true → passes u ≡ true

pub upto_passes : (at threshold : Time) → is_before at threshold ≡ false
    → PassesBefore threshold (upto at)
upto_passes at threshold on u early = elim (cases_Bool (is_before at u)) [
  | inr n ↦ ap not n
  | inl h ↦
      absurd (both_ways (is_before at threshold) on (is_before-transitive at u threshold h early))
]

pub later_on : (a b : Time) → is_before (later a b) a ≡ false
later_on a b = elim (later-reports a b) [
  | inl h ↦ subst (λ (x : Time). is_before x a ≡ false) (sym h.1) (is_before-opposite a b h.0)
  | inr h ↦ subst (λ (x : Time). is_before x a ≡ false) (sym h.1) (is_before-itself a)
]

-- what is before a time is before a later one
before_later : (u a b : Time) → is_before b a ≡ false → is_before u a ≡ true → is_before u b ≡ true
before_later u a b on h = elim (cases_Bool (is_before u b)) [
  | inl e ↦ e
  | inr n ↦ absurd (both_ways (is_before u a) (no_earlier-transitive a b u on n) h)
]

-- ---- what is kept of a key

-- From a time on some versions say the same as all that were laid down.
pub record AgreesFrom (threshold : Time) (kept all : List Version) : Type 0 where
  pub found : (passes : Time → Bool) → PassesBefore threshold passes
      → found passes kept ≡ found passes all
  pub after : (t : Time) → is_before t threshold ≡ false → IsAfter (newest_time kept) t
      → IsAfter (newest_time all) t

pub agrees_itself : (threshold : Time) (vs : List Version) → AgreesFrom threshold vs vs
agrees_itself threshold vs = record { found = λ passes h. refl; after = λ t on h. h }

stored_after : (k : KeyBytes) (at : Time) (by : Owner) (ws : List Write) (kept all : List Version)
    (t : Time) → (IsAfter (newest_time kept) t → IsAfter (newest_time all) t)
    → IsAfter (newest_time (stored k at by ws kept)) t →
    IsAfter (newest_time (stored k at by ws all)) t
stored_after k at by [] kept all t f h = f h
stored_after k at by (w ∷ ws) kept all t f h = elim (cases_Bool (bytes_eq w.key k)) [
  | inl own ↦ rw own (stored_after k at by ws (one ∷ kept) (one ∷ all) t (λ x. x) (there true own))
  | inr other ↦ rw other (stored_after k at by ws kept all t f (there false other))
]
  where
    one : Version
    one = record { at = at; by = by; content = w.content }

    there : (b : Bool) → bytes_eq w.key k ≡ b
        → IsAfter (newest_time (stored k at by ws (if b then one ∷ kept else kept))) t
    there b is =
        subst (λ (x : Bool). IsAfter (newest_time (stored k at by ws (if x then one ∷ kept else
        kept))) t) is h

pub agrees_stored : (threshold : Time) (k : KeyBytes) (at : Time) (by : Owner) (ws : List Write)
    (kept all : List Version) → AgreesFrom threshold kept all
    → AgreesFrom threshold (stored k at by ws kept) (stored k at by ws all)
agrees_stored threshold k at by ws kept all a = record {
  found = λ passes h. found_stored passes k at by ws kept
      ∙ (ap (λ (x : Content). if passes at then after_writes k x ws else x) (a.found passes h)
      ∙ sym (found_stored passes k at by ws all));
  after = λ t on. stored_after k at by ws kept all t (a.after t on);
}

pub found_kept : (passes : Time → Bool) (from : Time) (vs : List Version) → PassesBefore from passes
    → found passes (kept_from from vs) ≡ found passes vs
found_kept passes from [] h = refl
found_kept passes from (v ∷ vs) h = elim (cases_Bool (is_before v.at from)) [
  | inr n ↦ rw n (ap (λ (c : Content). if passes v.at then v.content else
      c) (found_kept passes from vs h))
  | inl early ↦ rw early (oldest v.content (h v.at early) refl)
]
  where
    oldest : (c : Content) → passes v.at ≡ true → v.content ≡ c → found passes (unless_deletion v c)
        ≡ found passes (v ∷ vs)
    oldest None p e = rw p (sym e)
    oldest (Some b) p e = rw p refl

after_kept : (from : Time) (vs : List Version) (t : Time) → is_before t from ≡ false
    → IsAfter (newest_time (kept_from from vs)) t → IsAfter (newest_time vs) t
after_kept from [] t on h = h
after_kept from (v ∷ vs) t on h = elim (cases_Bool (is_before v.at from)) [
  | inr n ↦ subst (λ (b : Bool). IsAfter (newest_time (if b then unless_deletion v v.content else
      v ∷ kept_from from vs)) t) n h
  | inl early ↦ before_later v.at from t on early
]

pub agrees_kept : (threshold from : Time) (kept all : List Version) → is_before from threshold
    ≡ false → AgreesFrom threshold kept all → AgreesFrom from (kept_from from kept) all
agrees_kept threshold from kept all on a = record {
  found = λ passes h. found_kept passes from kept h
      ∙ a.found passes (λ u early. h u (before_later u threshold from on early));
  after = λ t x h. a.after t (no_earlier-transitive threshold from t on x)
      (after_kept from kept t x h);
}

all_kept : (P : Version → Type 0) (from : Time) (vs : List Version) → AllByRecursion P vs
    → AllByRecursion P (kept_from from vs)
all_kept P from [] all = tt
all_kept P from (v ∷ vs) all = elim (cases_Bool (is_before v.at from)) [
  | inr n ↦ rw n (all.0, all_kept P from vs all.1)
  | inl early ↦ rw early (oldest v.content)
]
  where
    oldest : (c : Content) → AllByRecursion P (unless_deletion v c)
    oldest None = tt
    oldest (Some b) = (all.0, tt)

pub kept_newest_first : (from : Time) (vs : List Version) → AreNewestFirst vs
    → AreNewestFirst (kept_from from vs)
kept_newest_first from [] order = tt
kept_newest_first from (v ∷ vs) order = elim (cases_Bool (is_before v.at from)) [
  | inr n ↦ rw n (
    all_kept (λ (u : Version). is_before v.at u.at ≡ false) from vs order.0,
    kept_newest_first from vs order.1,
  )
  | inl early ↦ rw early (oldest v.content)
]
  where
    oldest : (c : Content) → AreNewestFirst (unless_deletion v c)
    oldest None = tt
    oldest (Some b) = (tt, tt)

-- What is not among those that are kept is not among all, from the time on.
pub all_from_kept : (from : Time) (vs : List Version) (at : Time) (by : Owner)
    → is_before at from ≡ false → AreNewestFirst vs
    → AllByRecursion (λ (v : Version). v.at ≡ at → v.by ≡ by → ⊥) (kept_from from vs)
    → AllByRecursion (λ (v : Version). v.at ≡ at → v.by ≡ by → ⊥) vs
all_from_kept from [] at by on order all = tt
all_from_kept from (v ∷ vs) at by on order all = elim (cases_Bool (is_before v.at from)) [
  | inr n ↦ let parts = subst (λ (b : Bool). AllByRecursion (λ (u : Version). u.at ≡ at → u.by ≡ by
      → ⊥) (if b then unless_deletion v v.content else v ∷ kept_from from vs)) n all in
      (parts.0, all_from_kept from vs at by on order.1 parts.1)
  | inl early ↦ (
    other v early,
    each (λ (u : Version). is_before v.at u.at ≡ false) (λ (u : Version). u.at ≡ at → u.by ≡ by
        → ⊥) vs
        (λ u none. other u (elim (cases_Bool (is_before u.at from)) [
          | inl e ↦ e
          | inr n ↦
              absurd (both_ways (is_before v.at from) (no_earlier-transitive from u.at v.at n none)
              early)
        ])) order.0,
  )
]
  where
    other : (u : Version) → is_before u.at from ≡ true → u.at ≡ at → u.by ≡ by → ⊥
    other u e same own =
        both_ways (is_before at from) on (subst (λ (x : Time). is_before x from ≡ true) same e)
