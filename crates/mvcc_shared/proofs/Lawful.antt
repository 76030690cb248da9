-- The laws of those who share a range.
use Rattle.std.proofs.Common.{◌≡◌, ◌∙◌, inl, inr, refl, sym, ap, subst, true, false, not}
use Rattle.std.proofs.Common.{List, [], ◌∷◌, ◌++◌, None}
use Rattle.std.specs.List.{AllByRecursion}
use Rattle.std.proofs.lemmas.Bool.{cases_Bool}
use Rattle.tsc_time.proofs.TimeOrder.{no_earlier-transitive}
use Rattle.tsc_span.specs.Span.{covers}
use Rattle.timestamp_cache.specs.Words.{Time, is_before, SpanView, KeyBytes}
use Rattle.mvcc_versions.specs.Versions.{Content, Contents, Read, Write, after_writes, as_of, chain_of}
use Rattle.mvcc_range.specs.Serial.{
  Transaction,
  empty,
  executed,
  placed,
  serial_order,
}
use Rattle.mvcc_range.proofs.Placing.{
  upto,
  always,
  as_of_found,
  content_after,
  all_leave,
  AreOrdered,
  ordered,
  matches_same,
}
use Rattle.mvcc_range.proofs.Collecting.{upto_passes}
use Rattle.mvcc_range.proofs.Keeping.{keeps}
use Rattle.mvcc_shared.specs.Laws.{up_to, SeesCommits, Precedes, StrictByTimes, ReadsOwnWrites}

-- ---- what a range has as of a time

after_those : (at : Time) (k : KeyBytes) (now : Content) (ts : List Transaction)
    → content_after (upto at) k now ts ≡ content_after always k now (up_to at ts)
after_those at k now [] = refl
after_those at k now (t ∷ ts) = elim (cases_Bool (not (is_before at t.at))) [
  | inl there ↦ rw there (after_those at k (after_writes k now t.writes) ts)
  | inr later ↦ rw later (after_those at k now ts)
]

pub sees_commits : SeesCommits
sees_commits range answered committed at k run on =
    let kept = keeps range answered committed run in
    let order : List Transaction = serial_order committed in
    as_of_found at (chain_of range.chains k)
    ∙ (kept.agrees k).found (upto at) (upto_passes at range.threshold on)
    ∙ kept.found (upto at) k
    ∙ after_those at k None order
    ∙ sym (all_leave empty (up_to at order) k)

-- ---- the order of times

-- What precedes stays so where one more takes its place.
precedes_placed : (v t u : Transaction) (order : List Transaction) → Precedes order t u
    → Precedes (placed v order) t u
precedes_placed v t u order p =
    subst (λ (xs : List Transaction). Precedes (placed v xs) t u) (sym p.3)
    (into p.0 p.1 p.2)
  where
    behind : (xs zs : List Transaction) → (ys : List Transaction) × (ws : List Transaction)
        × (placed v (xs ++ u ∷ zs) ≡ ys ++ u ∷ ws)
    behind [] zs = elim (cases_Bool (is_before v.at u.at)) [
      | inl h ↦ (v ∷ [], zs, rw h refl)
      | inr h ↦ ([], placed v zs, rw h refl)
    ]
    behind (x ∷ xs) zs = elim (cases_Bool (is_before v.at x.at)) [
      | inl h ↦ (v ∷ x ∷ xs, zs, rw h refl)
      | inr h ↦ let b = behind xs zs in
          (x ∷ b.0, b.1, rw h (ap (λ (l : List Transaction). x ∷ l) b.2))
    ]

    into : (xs ys zs : List Transaction) → Precedes (placed v (xs ++ t ∷ ys ++ u ∷ zs)) t u
    into [] ys zs = elim (cases_Bool (is_before v.at t.at)) [
      | inl h ↦ (v ∷ [], ys, zs, rw h refl)
      | inr h ↦ let b = behind ys zs in
          ([], b.0, b.1, rw h (ap (λ (l : List Transaction). t ∷ l) b.2))
    ]
    into (x ∷ xs) ys zs = elim (cases_Bool (is_before v.at x.at)) [
      | inl h ↦ (v ∷ x ∷ xs, ys, zs, rw h refl)
      | inr h ↦ let i = into xs ys zs in
          (x ∷ i.0, i.1, i.2, rw h (ap (λ (l : List Transaction). x ∷ l) i.3))
    ]

-- one stands among others
abbrev Among : List Transaction → Transaction → Type 0
Among order t = (before after : List Transaction) × (order ≡ before ++ t ∷ after)

among_placed : (t : Transaction) (us : List Transaction) → Among (placed t us) t
among_placed t [] = ([], [], refl)
among_placed t (u ∷ us) = elim (cases_Bool (is_before t.at u.at)) [
  | inl h ↦ ([], u ∷ us, rw h refl)
  | inr h ↦ let a = among_placed t us in
      (u ∷ a.0, a.1, rw h (ap (λ (l : List Transaction). u ∷ l) a.2))
]

-- and still does where one more takes its place
among_more : (v t : Transaction) (order : List Transaction) → Among order t
    → Among (placed v order) t
among_more v t order a =
    subst (λ (xs : List Transaction). Among (placed v xs) t) (sym a.2) (into a.0 a.1)
  where
    into : (xs zs : List Transaction) → Among (placed v (xs ++ t ∷ zs)) t
    into [] zs = elim (cases_Bool (is_before v.at t.at)) [
      | inl h ↦ (v ∷ [], zs, rw h refl)
      | inr h ↦ ([], placed v zs, rw h refl)
    ]
    into (x ∷ xs) zs = elim (cases_Bool (is_before v.at x.at)) [
      | inl h ↦ (v ∷ x ∷ xs, zs, rw h refl)
      | inr h ↦ let i = into xs zs in
          (x ∷ i.0, i.1, rw h (ap (λ (l : List Transaction). x ∷ l) i.2))
    ]

-- Who comes at a time not before that of one among them takes a place behind that one.
behind_one : (u t : Transaction) (order : List Transaction) → AreOrdered order
    → is_before u.at t.at ≡ false → Among order t → Precedes (placed u order) t u
behind_one u t order o late a =
    subst (λ (xs : List Transaction). Precedes (placed u xs) t u) (sym a.2)
    (into a.0 a.1 (subst AreOrdered a.2 o))
  where
    -- t is no earlier than what stands before it
    first_late : (x : Transaction) (xs zs : List Transaction)
        → AllByRecursion (λ (w : Transaction). is_before w.at x.at ≡ false) (xs ++ t ∷ zs)
        → is_before t.at x.at ≡ false
    first_late x [] zs all = all.0
    first_late x (y ∷ xs) zs all = first_late x xs zs all.1

    into : (xs zs : List Transaction) → AreOrdered (xs ++ t ∷ zs)
        → Precedes (placed u (xs ++ t ∷ zs)) t u
    into [] zs o = let b = among_placed u zs in
        ([], b.0, b.1, rw late (ap (λ (l : List Transaction). t ∷ l) b.2))
    into (x ∷ xs) zs o =
        let h : is_before u.at x.at ≡ false =
        no_earlier-transitive x.at t.at u.at (first_late x xs zs o.0) late in
        let i = into xs zs o.1 in
        (x ∷ i.0, i.1, i.2, rw h (ap (λ (l : List Transaction). x ∷ l) i.3))

-- the order in which transactions committed, from the last one on
among_order : (t : Transaction) (xs ys : List Transaction)
    → Among (serial_order (xs ++ t ∷ ys)) t
among_order t [] ys = among_placed t (serial_order ys)
among_order t (x ∷ xs) ys = among_more x t (serial_order (xs ++ t ∷ ys)) (among_order t xs ys)

precedes_order : (t u : Transaction) (xs ys zs : List Transaction)
    → is_before u.at t.at ≡ false → Precedes (serial_order (xs ++ u ∷ ys ++ t ∷ zs)) t u
precedes_order t u [] ys zs late =
    behind_one u t (serial_order (ys ++ t ∷ zs)) (ordered (ys ++ t ∷ zs)) late
    (among_order t ys zs)
precedes_order t u (x ∷ xs) ys zs late =
    precedes_placed x t u (serial_order (xs ++ u ∷ ys ++ t ∷ zs))
    (precedes_order t u xs ys zs late)

pub strict_by_times : StrictByTimes
strict_by_times t u later between earlier late = precedes_order t u later between earlier late

-- ---- own writes

-- what a key has after writes depends on what it had
same_after : (k : KeyBytes) (x y : Content) (ws : List Write) → x ≡ y
    → after_writes k x ws ≡ after_writes k y ws
same_after k x y ws is = ap (λ (c : Content). after_writes k c ws) is

pub reads_own_writes : ReadsOwnWrites
reads_own_writes from to before after span now rows there reads own matches =
    let read : Read = reads.read in
    let was : Contents = as_of before.at from.chains in
    let same : (k : KeyBytes) → covers span k ≡ true → was k ≡ there k =
    λ k c. let c' : covers read.span k ≡ true = ap (λ (s : SpanView). covers s k) reads.of ∙ c in
    sym (reads.answers.matches.rows k c') ∙ matches.rows k c' in
    matches_same (record { span = span; rows = rows }) (executed was before)
    (executed there before)
    (λ k c. same_after k (was k) (there k) before.writes (same k c)) own
