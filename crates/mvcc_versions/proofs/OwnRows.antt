-- Rows with writes put over them are what is there after the writes.
use Rattle.std.proofs.Common.{◌≡◌, ◌∙◌, ap, sym, refl, subst, inl, inr, ℕ, suc, ◌<◌, ◌≤◌, List, [], ◌∷◌, ◌++◌, append-nil, length, get_or, Bool, true, false, if◌then◌else◌, Some, None, arith}
use Rattle.std.specs.List.{AllByRecursion, insert, remove}
use Rattle.std.specs.Str.{bytes_eq}
use Rattle.std.proofs.lemmas.Bool.{cases_Bool, both_ways}
use Rattle.std.proofs.lemmas.Slice.Eq.{bytes_eq-Decides}
use Rattle.std.proofs.lemmas.List.Elements.{All-from_recursion, recursion_from_All}
use Rattle.tsc_span.specs.Span.{covers}
use Rattle.timestamp_cache.specs.Words.{KeyBytes, SpanView}
use Rattle.mvcc_versions.specs.Versions.{
  Content,
  Contents,
  Write,
  Row,
  row_of,
  AreInKeyOrder,
  Matches,
  after_writes,
}
use Rattle.mvcc_versions.specs.RowsIn.{row_for}
use Rattle.mvcc_versions.specs.OwnRows.{place_of, has_row, put_row, put_write, put_writes}
use Rattle.mvcc_versions.proofs.Lists.{each}
use Rattle.mvcc_versions.proofs.RowsAsOf.{lower, lower-transitive, above_other, is_above, absent}

-- ---- places

pub removed : (rows : List Row) (k : KeyBytes) → has_row rows k ≡ true
    → remove rows (place_of rows k) ≡ put_row rows k None
removed [] k h = absurd (let never : false ≡ true = h in cc)
removed (r ∷ rs) k h = elim (cases_Bool (lower r.key k)) [
  | inl l ↦
      rw l (ap (λ (xs : List Row). r ∷ xs)
      (removed rs k (sym (ap (λ (b : Bool). if b then has_row rs k else bytes_eq r.key k) l) ∙ h)))
  | inr n ↦ let same : bytes_eq r.key k ≡ true = sym (ap (λ (b : Bool). if b then has_row rs k else
      bytes_eq r.key k) n) ∙ h in rw (n, same) refl
]

pub not_there : (rows : List Row) (k : KeyBytes) → has_row rows k ≡ false
    → rows ≡ put_row rows k None
not_there [] k h = refl
not_there (r ∷ rs) k h = elim (cases_Bool (lower r.key k)) [
  | inl l ↦
      rw l (ap (λ (xs : List Row). r ∷ xs)
      (not_there rs k (sym (ap (λ (b : Bool). if b then has_row rs k else bytes_eq r.key k) l)
      ∙ h)))
  | inr n ↦ let other : bytes_eq r.key k ≡ false =
      sym (ap (λ (b : Bool). if b then has_row rs k else bytes_eq r.key k) n) ∙ h in
      rw (n, other) refl
]

pub inserted : (rows : List Row) (k : KeyBytes) (b : List ℕ)
    → insert (put_row rows k None) (place_of rows k) (record { key = k; value = b })
    ≡ put_row rows k (Some b)
inserted [] k b = refl
inserted (r ∷ rs) k b = elim (cases_Bool (lower r.key k)) [
  | inl l ↦ rw l (ap (λ (xs : List Row). r ∷ xs) (inserted rs k b))
  | inr n ↦ elim (cases_Bool (bytes_eq r.key k)) [
    | inl same ↦ rw (n, same) refl
    | inr other ↦ rw (n, other) refl
  ]
]

pub place_within : (rows : List Row) (k : KeyBytes) → place_of rows k ≤ length (put_row rows k None)
place_within [] k = omega arith
place_within (r ∷ rs) k = elim (cases_Bool (lower r.key k)) [
  | inl l ↦ rw l (let more = place_within rs k in omega arith)
  | inr n ↦ rw n (omega arith)
]

pub place_below : (rows : List Row) (k : KeyBytes) → has_row rows k ≡ true
    → place_of rows k < length rows
place_below [] k h = absurd (let never : false ≡ true = h in cc)
place_below (r ∷ rs) k h = elim (cases_Bool (lower r.key k)) [
  | inl l ↦
      rw l (let more = place_below rs k (sym (ap (λ (b : Bool). if b then has_row rs k else
      bytes_eq r.key k) l) ∙ h) in omega arith)
  | inr n ↦ rw n (omega arith)
]

pub at_place : (rows : List Row) (k : KeyBytes) (d : Row) → place_of rows k < length rows
    → bytes_eq (get_or rows (place_of rows k) d).key k ≡ has_row rows k
at_place [] k d h = absurd (omega arith)
at_place (r ∷ rs) k d h = elim (cases_Bool (lower r.key k)) [
  | inl l ↦ let less : suc (place_of rs k) < suc (length rs) =
      subst (λ (b : Bool). (if b then suc (place_of rs k) else 0) < suc (length rs)) l h in
      rw l (at_place rs k d (omega arith))
  | inr n ↦ rw n refl
]

pub none_at_end : (rows : List Row) (k : KeyBytes) → length rows ≤ place_of rows k
    → has_row rows k ≡ false
none_at_end [] k h = refl
none_at_end (r ∷ rs) k h = elim (cases_Bool (lower r.key k)) [
  | inl l ↦ let less : suc (length rs) ≤ suc (place_of rs k) =
      subst (λ (b : Bool). suc (length rs) ≤ (if b then suc (place_of rs k) else 0)) l h in
      rw l (none_at_end rs k (omega arith))
  | inr n ↦ let less : suc (length rs) ≤ 0 =
      subst (λ (b : Bool). suc (length rs) ≤ (if b then suc (place_of rs k) else 0)) n h in
      absurd (omega arith)
]

row_front : (q k : KeyBytes) (c : Content) (xs : List Row)
    → (bytes_eq k q ≡ true → row_of q xs ≡ None) → row_of q (row_for k c ++ xs)
    ≡ (if bytes_eq k q then c else row_of q xs)
row_front q k None xs none = elim (cases_Bool (bytes_eq k q)) [
  | inl h ↦ rw h (none h)
  | inr n ↦
      rw n refl
]
row_front q k (Some b) xs none = refl

pub row_put : (q k : KeyBytes) (c : Content) (rows : List Row) → AreInKeyOrder rows
    → row_of q (put_row rows k c) ≡ (if bytes_eq k q then c else row_of q rows)
row_put q k c [] o = subst (λ (xs : List Row). row_of q xs ≡ (if bytes_eq k q then c else None))
    (append-nil (row_for k c)) (row_front q k c [] (λ h. refl))
row_put q k c (r ∷ rs) o = elim (cases_Bool (lower r.key k)) [
  | inl l ↦ elim (cases_Bool (bytes_eq r.key q)) [
    | inl same ↦ let not : bytes_eq k q ≡ false = subst (λ (x : KeyBytes). bytes_eq k x ≡ false)
        ((bytes_eq-Decides r.key q).0 same) (above_other r.key k l) in rw (l, not, same) refl
    | inr other ↦ rw (l, other) (row_put q k c rs o.1)
  ]
  | inr n ↦ elim (cases_Bool (bytes_eq r.key k)) [
    | inl same ↦ let e : r.key ≡ k = (bytes_eq-Decides r.key k).0 same in
        rw (n, same)
        (row_front q k c rs
        (λ h. absent q rs (subst (λ (x : KeyBytes). AllByRecursion (λ (p : Row). lower x p.key
        ≡ true) rs) (e ∙ (bytes_eq-Decides k q).0 h) o.0)) ∙ skipped e)
    | inr other ↦ let up : lower k r.key ≡ true = is_above r.key k n other in
        rw (n, other) (row_front q k c (r ∷ rs)
        (λ h. absent q (r ∷ rs)
        (subst (λ (x : KeyBytes). AllByRecursion (λ (p : Row). lower x p.key ≡ true) (r ∷ rs))
        ((bytes_eq-Decides k q).0 h) (
          up,
          each (λ (p : Row). lower r.key p.key ≡ true) (λ (p : Row). lower k p.key ≡ true) rs
              (λ p h. lower-transitive k r.key p.key up h) o.0,
        ))))
  ]
]
  where
    skipped : r.key ≡ k → (if bytes_eq k q then c else row_of q rs) ≡ (if bytes_eq k q then c else
        row_of q (r ∷ rs))
    skipped e = elim (cases_Bool (bytes_eq k q)) [
      | inl h ↦ rw h refl
      | inr n ↦ let not : bytes_eq r.key q ≡ false = subst (λ (x : KeyBytes). bytes_eq x q ≡ false)
          (sym e) n in rw (n, not) refl
    ]

pub each_put : (P : KeyBytes → Type 0) (k : KeyBytes) (c : Content) (rows : List Row) → P k
    → AllByRecursion (λ (r : Row). P r.key) rows
    → AllByRecursion (λ (r : Row). P r.key) (put_row rows k c)
each_put P k c [] own all = front c [] tt
  where
    front : (d : Content) (xs : List Row) → AllByRecursion (λ (r : Row). P r.key) xs
        → AllByRecursion (λ (r : Row). P r.key) (row_for k d)
    front None xs a = tt
    front (Some b) xs a = (own, tt)
each_put P k c (r ∷ rs) own all = elim (cases_Bool (lower r.key k)) [
  | inl l ↦ rw l (all.0, each_put P k c rs own all.1)
  | inr n ↦ elim (cases_Bool (bytes_eq r.key k)) [
    | inl same ↦ rw (n, same) (front c rs all.1)
    | inr other ↦ rw (n, other) (front c (r ∷ rs) all)
  ]
]
  where
    front : (d : Content) (xs : List Row) → AllByRecursion (λ (q : Row). P q.key) xs
        → AllByRecursion (λ (q : Row). P q.key) (row_for k d ++ xs)
    front None xs a = a
    front (Some b) xs a = (own, a)

pub order_put : (k : KeyBytes) (c : Content) (rows : List Row) → AreInKeyOrder rows
    → AreInKeyOrder (put_row rows k c)
order_put k None [] o = tt
order_put k (Some b) [] o = (tt, tt)
order_put k c (r ∷ rs) o = elim (cases_Bool (lower r.key k)) [
  | inl l ↦ rw l (
    each_put (λ (q : KeyBytes). lower r.key q ≡ true) k c rs l o.0,
    order_put k c rs o.1,
  )
  | inr n ↦ elim (cases_Bool (bytes_eq r.key k)) [
    | inl same ↦
        rw (n, same)
        (front c rs (subst (λ (x : KeyBytes). AllByRecursion (λ (p : Row). lower x p.key ≡ true) rs)
        ((bytes_eq-Decides r.key k).0 same) o.0) o.1)
    | inr other ↦ let up : lower k r.key ≡ true = is_above r.key k n other in
        rw (n, other) (front c (r ∷ rs) (
          up,
          each (λ (p : Row). lower r.key p.key ≡ true)
              (λ (p : Row). lower k p.key ≡ true) rs
              (λ p h. lower-transitive k r.key p.key up h) o.0,
        )
        o)
  ]
]
  where
    front : (d : Content) (xs : List Row) → AllByRecursion (λ (p : Row). lower k p.key ≡ true) xs
        → AreInKeyOrder xs → AreInKeyOrder (row_for k d ++ xs)
    front None xs all order = order
    front (Some b) xs all order = (all, order)

-- ---- writes

-- what each key has after one write
abbrev after : Contents → Write → Contents
after there w k = if bytes_eq w.key k then w.content else there k

one_write : (span : SpanView) (rows : List Row) (w : Write) (there : Contents)
    → Matches (record { span = span; rows = rows }) there
    → Matches (record { span = span; rows = put_write span rows w }) (after there w)
one_write span rows w there m = elim (cases_Bool (covers span w.key)) [
  | inl c ↦ rw c (record {
    rows = λ q x. row_put q w.key w.content rows m.order
        ∙ ap (λ (y : Content). if bytes_eq w.key q then w.content else y) (m.rows q x);
    within = All-from_recursion (λ (r : Row). covers span r.key ≡ true)
        (put_row rows w.key w.content)
        (each_put (λ (q : KeyBytes). covers span q ≡ true) w.key w.content rows c
        (recursion_from_All (λ (r : Row). covers span r.key ≡ true) rows m.within));
    order = order_put w.key w.content rows m.order;
  })
  | inr n ↦ rw n (record {
    rows = λ q x. m.rows q x
        ∙ sym (ap (λ (b : Bool). if b then w.content else there q) (other q n x));
    within = m.within;
    order = m.order;
  })
]
  where
    other : (q : KeyBytes) → covers span w.key ≡ false → covers span q ≡ true
        → bytes_eq w.key q ≡ false
    other q n x = elim (cases_Bool (bytes_eq w.key q)) [
      | inr o ↦ o
      | inl same ↦
          absurd (both_ways (covers span q) (subst (λ (k : KeyBytes). covers span k ≡ false)
          ((bytes_eq-Decides w.key q).0 same) n) x)
    ]

-- So rows that are what is there are, with writes put over them, what is there after these.
pub rows_written : (span : SpanView) (rows : List Row) (ws : List Write) (there : Contents)
    → Matches (record { span = span; rows = rows }) there
    → Matches (record { span = span; rows = put_writes span rows ws })
    (λ k. after_writes k (there k) ws)
rows_written span rows [] there m = m
rows_written span rows (w ∷ ws) there m = rows_written span (put_write span rows w) ws
    (after there w) (one_write span rows w there m)
