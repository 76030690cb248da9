-- The rows of a span, one key after another, and that they are what is there.
use Rattle.std.proofs.Common.{◌≡◌, ◌∙◌, ap, ap₂, sym, refl, subst, inl, inr, ℕ, List, [], ◌∷◌, ◌++◌, Bool, true, false, not, ◌&&◌, if◌then◌else◌, Some, None, Option}
use Rattle.std.specs.Prelude.{◌↔◌, unwrap_or, slice_get}
use Rattle.std.specs.List.{AllByRecursion, filter}
use Rattle.std.specs.List.Sorted.{IsStrictlySortedBy}
use Rattle.std.specs.Map.{lookup, keys_of}
use Rattle.std.specs.BTreeMap.{is_at}
use Rattle.std.specs.BTreeMap.Range.{range_contains, entries_between}
use Rattle.std.specs.declared.ops.Bound.TheVariants.{Included, Unbounded}
use Rattle.std.specs.Ordering.{is_lt, is_le, is_eq, ordering_reverse, ordering_then}
use Rattle.std.specs.declared.cmp.Ordering.{Ordering}
use Rattle.std.specs.declared.cmp.Ordering.TheVariants.{Less, Equal, Greater}
use Rattle.std.specs.Str.{bytes_eq}
use Rattle.std.proofs.lemmas.Bool.{cases_Bool, both_ways}
use Rattle.std.proofs.lemmas.Slice.Eq.{bytes_eq-Decides}
use Rattle.std.proofs.lemmas.List.Elements.{All-from_recursion, recursion_from_All}
use Rattle.std.proofs.lemmas.Map.Keys.{sorted_head, sorted_tail}
use Rattle.std.proofs.lemmas.List.Kept.{IsStrictlySortedBy-filter}
use Rattle.tsc_span.specs.Span.{before, after, last, nothing, between, point, covers, key_cmp, is_below, end_keys, different_keys, key_of_cut}
use Rattle.tsc_span.proofs.CutsTotal.{key_cmp_back, key_cmp-same}
use Rattle.tsc_span.proofs.Overlaps.{is_below-opposite, is_below-transitive}
use Rattle.timestamp_cache.specs.Words.{Time, KeyBytes, SpanView}
use Rattle.mvcc_versions.specs.Versions.{Content, Contents, Version, Row, content_as_of, as_of, row_of, AreInKeyOrder, Matches, Chains}
use Rattle.mvcc_versions.specs.RowsIn.{row_for, row_in, rows_in, stops_before}
use Rattle.mvcc_versions.proofs.Lists.{each}

abbrev pub Entries : Type 0
Entries = Chains

-- Each key is lower than those behind it.
abbrev pub AreSorted : Entries → Type 0
AreSorted es = IsStrictlySortedBy key_cmp (keys_of es)

abbrev pub lower : KeyBytes → KeyBytes → Bool
lower a b = is_lt (key_cmp a b)

-- ---- keys in order

lower-opposite : (a b : KeyBytes) → lower a b ≡ true → lower b a ≡ false
lower-opposite a b h = is_below-opposite (before a) (before b) h

lower-itself : (a : KeyBytes) → lower a a ≡ false
lower-itself a = elim (cases_Bool (lower a a)) [ inl h ↦ lower-opposite a a h | inr h ↦ h ]

pub lower-transitive : (a b c : KeyBytes) → lower a b ≡ true → lower b c ≡ true → lower a c ≡ true
lower-transitive a b c p q = is_below-transitive (before a) (before b) (before c) p q

-- the one above another is not that one
pub above_other : (a b : KeyBytes) → lower a b ≡ true → bytes_eq b a ≡ false
above_other a b h = elim (cases_Bool (bytes_eq b a)) [
  | inr n ↦ n
  | inl same ↦
      absurd (both_ways (lower a a) (lower-itself a) (subst (λ (q : KeyBytes). lower a q ≡ true)
      ((bytes_eq-Decides b a).0 same) h))
]

-- one that is neither lower nor the same is above
pub is_above : (a b : KeyBytes) → lower a b ≡ false → bytes_eq a b ≡ false → lower b a ≡ true
is_above a b n other = by_cmp (key_cmp a b) refl
  where
    by_cmp : (o : Ordering) → key_cmp a b ≡ o → lower b a ≡ true
    by_cmp Less e = absurd (both_ways (lower a b) n (ap is_lt e))
    by_cmp Equal e =
        absurd (both_ways (bytes_eq a b) other ((bytes_eq-Decides a b).1 (key_cmp-same a b e)))
    by_cmp Greater e = ap is_lt (key_cmp_back a b ∙ ap ordering_reverse e)

-- the test of a map's lookup is that of equal keys
pub is_at-same : (k q : KeyBytes) → is_eq (key_cmp k q) ≡ bytes_eq q k
is_at-same k q = by_cmp (key_cmp k q) refl
  where
    other : lower k q ≡ true → bytes_eq q k ≡ false
    other h = above_other k q h

    other_way : lower q k ≡ true → bytes_eq q k ≡ false
    other_way h = elim (cases_Bool (bytes_eq q k)) [
      | inr n ↦ n
      | inl same ↦
          absurd (both_ways (lower q q) (lower-itself q) (subst (λ (x : KeyBytes). lower q x ≡ true)
          (sym ((bytes_eq-Decides q k).0 same)) h))
    ]

    by_cmp : (o : Ordering) → key_cmp k q ≡ o → is_eq (key_cmp k q) ≡ bytes_eq q k
    by_cmp Less e = ap is_eq e ∙ sym (other (ap is_lt e))
    by_cmp Equal e = ap is_eq e ∙ sym ((bytes_eq-Decides q k).1 (sym (key_cmp-same k q e)))
    by_cmp Greater e = ap is_eq e
        ∙ sym (other_way (ap is_lt (key_cmp_back k q ∙ ap ordering_reverse e)))

apart : {a b : KeyBytes} → (a ≡ b → ⊥) → bytes_eq a b ≡ false
apart {a} {b} not = elim (cases_Bool (bytes_eq a b)) [
  | inl same ↦
      absurd (not ((bytes_eq-Decides a b).0 same))
  | inr n ↦ n
]

pub is_at-key : (k q : KeyBytes) → is_eq (key_cmp k q) ≡ bytes_eq k q
is_at-key k q = by_cmp (key_cmp k q) refl
  where
    by_cmp : (o : Ordering) → key_cmp k q ≡ o → is_eq (key_cmp k q) ≡ bytes_eq k q
    by_cmp Less e = ap is_eq e
        ∙ sym (apart (λ same. absurd (both_ways (lower q q) (lower-itself q)
        (subst (λ (x : KeyBytes). lower x q ≡ true) same (ap is_lt e)))))
    by_cmp Equal e = ap is_eq e ∙ sym ((bytes_eq-Decides k q).1 (key_cmp-same k q e))
    by_cmp Greater e = ap is_eq e
        ∙ sym (apart (λ same. absurd (both_ways (lower q q) (lower-itself q)
        (subst (λ (x : KeyBytes). lower q x ≡ true) same (ap is_lt (key_cmp_back k q
        ∙ ap ordering_reverse e))))))

-- ---- what rows say

-- a key below all rows has none
pub absent : (k : KeyBytes) (rs : List Row) → AllByRecursion (λ (r : Row). lower k r.key ≡ true) rs
    → row_of k rs ≡ None
absent k [] all = refl
absent k (r ∷ rs) all = rw (above_other k r.key all.0) (absent k rs all.1)

-- what holds of each key holds of each row
each_row : (P : KeyBytes → Type 0) (span : SpanView) (at : Time) (es : Entries)
    → AllByRecursion (λ (k : KeyBytes). P k) (keys_of es)
    → AllByRecursion (λ (r : Row). P r.key) (rows_in span at es)
each_row P span at [] all = tt
each_row P span at (e ∷ es) all = elim (cases_Bool (covers span e.0)) [
  | inr out ↦ rw out (each_row P span at es all.1)
  | inl c ↦ rw c (front (content_as_of at e.1) (each_row P span at es all.1))
]
  where
    front : (d : Content) → AllByRecursion (λ (r : Row). P r.key) (rows_in span at es)
        → AllByRecursion (λ (r : Row). P r.key) (row_for e.0 d ++ rows_in span at es)
    front None rest = rest
    front (Some b) rest = (all.0, rest)

-- the keys behind the first are above it
pub above_first : (e : KeyBytes × List Version) (es : Entries) → AreSorted (e ∷ es)
    → AllByRecursion (λ (q : KeyBytes). lower e.0 q ≡ true) (keys_of es)
above_first e es sorted = each (λ (q : KeyBytes). key_cmp e.0 q ≡ Less)
    (λ (q : KeyBytes). lower e.0 q ≡ true) (keys_of es) (λ q less. ap is_lt less)
    (sorted_head key_cmp e.0 (keys_of es) sorted)

-- each row lies in the span
rows_within : (span : SpanView) (at : Time) (es : Entries)
    → AllByRecursion (λ (r : Row). covers span r.key ≡ true) (rows_in span at es)
rows_within span at [] = tt
rows_within span at (e ∷ es) = elim (cases_Bool (covers span e.0)) [
  | inr out ↦ rw out (rows_within span at es)
  | inl c ↦ rw c (front (content_as_of at e.1) c (rows_within span at es))
]
  where
    front : (d : Content) → covers span e.0 ≡ true
        → AllByRecursion (λ (r : Row). covers span r.key ≡ true) (rows_in span at es)
        → AllByRecursion (λ (r : Row). covers span r.key ≡ true) (row_for e.0 d
        ++ rows_in span at es)
    front None c rest = rest
    front (Some b) c rest = (c, rest)

-- and they are in order
rows_order : (span : SpanView) (at : Time) (es : Entries) → AreSorted es
    → AreInKeyOrder (rows_in span at es)
rows_order span at [] sorted = tt
rows_order span at (e ∷ es) sorted = elim (cases_Bool (covers span e.0)) [
  | inr out ↦ rw out (rows_order span at es (sorted_tail key_cmp e.0 (keys_of es) sorted))
  | inl c ↦
      rw c (front (content_as_of at e.1)
      (rows_order span at es (sorted_tail key_cmp e.0 (keys_of es) sorted)))
]
  where
    front : (d : Content) → AreInKeyOrder (rows_in span at es) → AreInKeyOrder (row_for e.0 d
        ++ rows_in span at es)
    front None rest = rest
    front (Some b) rest =
        (each_row (λ (q : KeyBytes). lower e.0 q ≡ true) span at es (above_first e es sorted), rest)

-- Of each key of the span they say what its versions say.
rows_say : (span : SpanView) (at : Time) (es : Entries) (k : KeyBytes) → AreSorted es
    → covers span k ≡ true → row_of k (rows_in span at es) ≡ content_as_of at
    (unwrap_or (lookup (is_at (key_cmp k)) es) [])
rows_say span at [] k sorted c = refl
rows_say span at (e ∷ es) k sorted c = elim (cases_Bool (bytes_eq e.0 k)) [
  | inl same ↦ own same ((bytes_eq-Decides e.0 k).0 same)
  | inr n ↦ let test : is_eq (key_cmp k e.0) ≡ false = is_at-same k e.0 ∙ n in
      rw test (beside n (rows_say span at es k (sorted_tail key_cmp e.0 (keys_of es) sorted) c))
]
  where
    front : (d : Content) → bytes_eq e.0 k ≡ true → e.0 ≡ k → row_of k (row_for e.0 d
        ++ rows_in span at es) ≡ d
    front None same is =
        absent k (rows_in span at es)
        (subst (λ (q : KeyBytes). AllByRecursion (λ (r : Row). lower q r.key ≡ true)
        (rows_in span at es)) is (each_row (λ (q : KeyBytes). lower e.0 q ≡ true) span at es
        (above_first e es sorted)))
    front (Some b) same is = rw same refl

    own : bytes_eq e.0 k ≡ true → e.0 ≡ k → row_of k (rows_in span at (e ∷ es)) ≡ content_as_of at
        (unwrap_or (lookup (is_at (key_cmp k)) (e ∷ es)) [])
    own same is =
        let test : is_eq (key_cmp k e.0) ≡ true = is_at-same k e.0 ∙ same in
        let inside : covers span e.0 ≡ true = subst (λ (q : KeyBytes). covers span q ≡ true)
        (sym is) c in
        rw (test, inside) (front (content_as_of at e.1) same is)

    other : (d : Content) → bytes_eq e.0 k ≡ false → row_of k (row_for e.0 d ++ rows_in span at es)
        ≡ row_of k (rows_in span at es)
    other None n = refl
    other (Some b) n = rw n refl

    beside : bytes_eq e.0 k ≡ false → row_of k (rows_in span at es) ≡ content_as_of at
        (unwrap_or (lookup (is_at (key_cmp k)) es) []) → row_of k (rows_in span at (e ∷ es))
        ≡ content_as_of at (unwrap_or (lookup (is_at (key_cmp k)) es) [])
    beside n rest = elim (cases_Bool (covers span e.0)) [
      | inr out ↦ rw out rest
      | inl in_it ↦ rw in_it (other (content_as_of at e.1) n ∙ rest)
    ]

-- So they are what is there.
pub rows_match : (span : SpanView) (at : Time) (es : Chains) → AreSorted es
    → Matches (record { span = span; rows = rows_in span at es }) (as_of at es)
rows_match span at es sorted = record {
  rows = λ k c. rows_say span at es k sorted c;
  within = All-from_recursion (λ (r : Row). covers span r.key ≡ true) (rows_in span at es)
      (rows_within span at es);
  order = rows_order span at es sorted;
}

-- ---- where a span starts and stops

not_below : (a k : KeyBytes) → lower k a ≡ false → is_le (key_cmp a k) ≡ true
not_below a k n = by_cmp (key_cmp a k) refl
  where
    by_cmp : (o : Ordering) → key_cmp a k ≡ o → is_le (key_cmp a k) ≡ true
    by_cmp Less e = ap is_le e
    by_cmp Equal e = ap is_le e
    by_cmp Greater e =
        absurd (both_ways (lower k a) n (ap is_lt (key_cmp_back a k ∙ ap ordering_reverse e)))

not_upto : (a k : KeyBytes) → is_lt (ordering_then (key_cmp k a) Less) ≡ false → lower k a ≡ false
not_upto a k n = by_cmp (key_cmp k a) refl
  where
    by_cmp : (o : Ordering) → key_cmp k a ≡ o → is_lt (key_cmp k a) ≡ false
    by_cmp Less e =
        absurd (let never : true
        ≡ false = sym (ap (λ (x : Ordering). is_lt (ordering_then x Less)) e) ∙ n in cc)
    by_cmp Equal e = ap is_lt e
    by_cmp Greater e = ap is_lt e

low : (a b : Bool) → (not a && not b) ≡ true → a ≡ false
low true b h = absurd (let never : false ≡ true = h in cc)
low false b h = refl

stopped : (a b : Bool) → b ≡ true → (not a && not b) ≡ false
stopped true b h = refl
stopped false b h = ap not h

first_key : (a : KeyBytes) (other : Option KeyBytes) → slice_get (different_keys (Some a) other) 0
    ≡ Some a
first_key a None = refl
first_key a (Some m) = elim (cases_Bool (bytes_eq a m)) [ inl h ↦ rw h refl | inr h ↦ rw h refl ]

same_key : (a q : KeyBytes) (other : Option KeyBytes) → slice_get (different_keys (Some a) other) 0
    ≡ Some q → a ≡ q
same_key a q other e = let same : Some a ≡ Some q = sym (first_key a other) ∙ e in cc

-- A key of a span is not below its first end key.
from_first : (span : SpanView) (k q : KeyBytes) → covers span k ≡ true → slice_get (end_keys span) 0
    ≡ Some q → is_le (key_cmp q k) ≡ true
from_first nothing k q c e = absurd (let never : false ≡ true = c in cc)
from_first (between (before a) to) k q c e =
    subst (λ (x : KeyBytes). is_le (key_cmp x k) ≡ true) (same_key a q (key_of_cut to) e)
    (not_below a k (low (is_below (before k) (before a)) (is_below to (after k)) c))
from_first (between (after a) to) k q c e =
    subst (λ (x : KeyBytes). is_le (key_cmp x k) ≡ true) (same_key a q (key_of_cut to) e)
    (not_below a k (not_upto a k (low (is_below (before k) (after a))
    (is_below to (after k)) c)))
from_first (between last to) k q c e = absurd (let never : false ≡ true = c in cc)

-- A span without end keys has no keys.
no_first : (span : SpanView) (k : KeyBytes) → slice_get (end_keys span) 0 ≡ None
    → covers span k ≡ false
no_first nothing k e = refl
no_first (between (before a) to) k e =
    absurd (let never : Some a ≡ None = sym (first_key a (key_of_cut to)) ∙ e in cc)
no_first (between (after a) to) k e =
    absurd (let never : Some a ≡ None = sym (first_key a (key_of_cut to)) ∙ e in cc)
no_first (between last to) k e = refl

-- so there are no rows of it
none_covered : (span : SpanView) (at : Time) (es : Entries)
    → AllByRecursion (λ (k : KeyBytes). covers span k ≡ false) (keys_of es)
    → rows_in span at es ≡ []
none_covered span at [] all = refl
none_covered span at (e ∷ es) all = rw all.0 (none_covered span at es all.1)

each_key : (P : KeyBytes → Type 0) (ks : List KeyBytes) → ((k : KeyBytes) → P k)
    → AllByRecursion P ks
each_key P [] f = tt
each_key P (k ∷ ks) f = (f k, each_key P ks f)

pub no_rows : (span : SpanView) (at : Time) (es : Entries) → slice_get (end_keys span) 0 ≡ None
    → rows_in span at es ≡ []
no_rows span at es e = none_covered span at es (each_key (λ (k : KeyBytes). covers span k ≡ false)
    (keys_of es) (λ k. no_first span k e))

-- From the first end key on there are all rows.
pub rows_from : (span : SpanView) (at : Time) (q : KeyBytes) (es : Entries)
    → slice_get (end_keys span) 0 ≡ Some q
    → rows_in span at (entries_between key_cmp (Included q) Unbounded es) ≡ rows_in span at es
rows_from span at q [] e = refl
rows_from span at q (x ∷ es) e = elim (cases_Bool (is_le (key_cmp q x.0))) [
  | inl h ↦ rw h (ap (λ (rs : List Row). row_in span at x ++ rs) (rows_from span at q es e))
  | inr n ↦ let out : covers span x.0 ≡ false = outside n in rw (n, out) (rows_from span at q es e)
]
  where
    outside : is_le (key_cmp q x.0) ≡ false → covers span x.0 ≡ false
    outside n = elim (cases_Bool (covers span x.0)) [
      | inr out ↦ out
      | inl c ↦ absurd (both_ways (is_le (key_cmp q x.0)) n (from_first span x.0 q c e))
    ]

-- Those keys are in order too.
keys_filter : (p : KeyBytes → Bool) (es : Entries)
    → keys_of (filter (λ (e : KeyBytes × List Version). p e.0) es) ≡ filter p (keys_of es)
keys_filter p [] = refl
keys_filter p (e ∷ es) = elim (cases_Bool (p e.0)) [
  | inl h ↦ rw h (ap (λ (ks : List KeyBytes). e.0 ∷ ks) (keys_filter p es))
  | inr h ↦ rw h (keys_filter p es)
]

pub sorted_from : (q : KeyBytes) (es : Entries) → AreSorted es
    → AreSorted (entries_between key_cmp (Included q) Unbounded es)
sorted_from q es sorted =
    let p : KeyBytes → Bool = range_contains key_cmp (Included q) Unbounded in
    subst (IsStrictlySortedBy key_cmp) (sym (keys_filter p es)) (IsStrictlySortedBy-filter key_cmp p
    (keys_of es) sorted)

-- Where a span stops before a key, it has neither that nor any above it.
stops_on : (span : SpanView) (k m : KeyBytes) → stops_before span k ≡ true → lower k m ≡ true
    → stops_before span m ≡ true
stops_on nothing k m stops l = refl
stops_on (between from to) k m stops l = is_below-transitive to (after k) (after m) stops l

stops_out : (span : SpanView) (k : KeyBytes) → stops_before span k ≡ true → covers span k ≡ false
stops_out nothing k stops = refl
stops_out (between from to) k stops =
    stopped (is_below (before k) from) (is_below to (after k)) stops

pub rows_stop : (span : SpanView) (at : Time) (e : KeyBytes × List Version) (es : Entries)
    → AreSorted (e ∷ es) → stops_before span e.0 ≡ true → rows_in span at (e ∷ es) ≡ []
rows_stop span at e es sorted stops = none_covered span at (e ∷ es) (
  stops_out span e.0 stops,
  each (λ (q : KeyBytes). lower e.0 q ≡ true) (λ (q : KeyBytes). covers span q ≡ false) (keys_of es)
      (λ q l. stops_out span q (stops_on span e.0 q stops l)) (above_first e es sorted),
)

-- ---- what is there is read in one way

-- rows say nothing of what lies outside
outside_none : (span : SpanView) (k : KeyBytes) (rs : List Row) → covers span k ≡ false
    → AllByRecursion (λ (r : Row). covers span r.key ≡ true) rs → row_of k rs ≡ None
outside_none span k [] out all = refl
outside_none span k (r ∷ rs) out all = elim (cases_Bool (bytes_eq r.key k)) [
  | inr n ↦ rw n (outside_none span k rs out all.1)
  | inl same ↦
      absurd (both_ways (covers span k) out (subst (λ (x : KeyBytes). covers span x ≡ true)
      ((bytes_eq-Decides r.key k).0 same) all.0))
]

own_row : (r : Row) (rs : List Row) → row_of r.key (r ∷ rs) ≡ Some r.value
own_row r rs = rw ((bytes_eq-Decides r.key r.key).1 refl) refl

-- no other list says of a row that is lower than all of its rows
not_lower : (r q : Row) (rs qs : List Row) → AreInKeyOrder (q ∷ qs)
    → row_of r.key (r ∷ rs) ≡ row_of r.key (q ∷ qs) → lower r.key q.key ≡ true → ⊥
not_lower r q rs qs o same l =
    let none : row_of r.key (q ∷ qs) ≡ None
    = absent r.key (q ∷ qs) (
      l,
      each (λ (p : Row). lower q.key p.key ≡ true)
          (λ (p : Row). lower r.key p.key ≡ true) qs (λ p h. lower-transitive r.key q.key p.key l h)
          o.0,
    ) in
    let never : Some r.value ≡ None = sym (own_row r rs) ∙ (same ∙ none) in absurd (cc)

same_row : (r q : Row) → r.key ≡ q.key → r.value ≡ q.value → r ≡ q
same_row r q e v =
    let make : KeyBytes → List ℕ → Row = λ k b. record { key = k; value = b } in ap₂ make e v

-- Two lists in order that say the same of each key are the same.
same_rows : (rs qs : List Row) → AreInKeyOrder rs → AreInKeyOrder qs
    → ((k : KeyBytes) → row_of k rs ≡ row_of k qs) → rs ≡ qs
same_rows [] [] o p same = refl
same_rows [] (q ∷ qs) o p same = absurd (let never : None ≡ Some q.value = same q.key
    ∙ own_row q qs in cc)
same_rows (r ∷ rs) [] o p same = absurd (let never : Some r.value ≡ None = sym (own_row r rs)
    ∙ same r.key in cc)
same_rows (r ∷ rs) (q ∷ qs) o p same = elim (cases_Bool (lower r.key q.key)) [
  | inl l ↦ absurd (not_lower r q rs qs p (same r.key) l)
  | inr n ↦ elim (cases_Bool (bytes_eq r.key q.key)) [
    | inr other ↦ absurd (not_lower q r qs rs o (sym (same q.key)) (is_above r.key q.key n other))
    | inl one ↦ let e : r.key ≡ q.key = (bytes_eq-Decides r.key q.key).0 one in
        let says : Some r.value ≡ Some q.value = sym (own_row r rs)
        ∙ (same r.key ∙ (ap (λ (x : KeyBytes). row_of x (q ∷ qs)) e ∙ own_row q qs)) in
        let v : r.value ≡ q.value = cc in
        let rest : rs ≡ qs = same_rows rs qs o.1 p.1 (λ k. tails e k) in
        ap₂ (λ (x : Row) (xs : List Row). x ∷ xs) (same_row r q e v) rest
  ]
]
  where
    tails : r.key ≡ q.key → (k : KeyBytes) → row_of k rs ≡ row_of k qs
    tails e k = elim (cases_Bool (bytes_eq r.key k)) [
      | inl h ↦ let here : r.key ≡ k = (bytes_eq-Decides r.key k).0 h in
          absent k rs (subst (λ (x : KeyBytes). AllByRecursion (λ (y : Row). lower x y.key
          ≡ true) rs) here o.0)
          ∙ sym (absent k qs (subst (λ (x : KeyBytes). AllByRecursion (λ (y : Row). lower x y.key
          ≡ true) qs) (sym e ∙ here) p.0))
      | inr n ↦ let m : bytes_eq q.key k ≡ false =
          subst (λ (x : KeyBytes). bytes_eq x k ≡ false) e n in
          sym (ap (λ (b : Bool). if b then Some r.value else row_of k rs) n)
          ∙ (same k ∙ ap (λ (b : Bool). if b then Some q.value else row_of k qs) m)
    ]

-- So two reads of a span that match the same contents are the same.
pub matches_once : (span : SpanView) (rs qs : List Row) (there : Contents)
    → Matches (record { span = span; rows = rs }) there
    → Matches (record { span = span; rows = qs }) there → rs ≡ qs
matches_once span rs qs there a b =
    same_rows rs qs a.order b.order (λ k. elim (cases_Bool (covers span k)) [
      | inl c ↦ a.rows k c ∙ sym (b.rows k c)
      | inr n ↦ outside_none span k rs n (recursion_from_All (λ (r : Row). covers span r.key
          ≡ true) rs a.within)
          ∙ sym (outside_none span k qs n (recursion_from_All (λ (r : Row). covers span r.key
          ≡ true) qs b.within))
    ])

-- ---- a single key

-- It lies in the span of itself,
pub covers_own : (q : KeyBytes) → covers (point q) q ≡ true
covers_own q = both (lower q q) (lower-itself q)
  where
    both : (b : Bool) → b ≡ false → (not b && not b) ≡ true
    both true n = absurd (let never : true ≡ false = n in cc)
    both false n = refl

-- and no other key does.
covers_one : (q k : KeyBytes) → covers (point q) k ≡ true → k ≡ q
covers_one q k c = elim (cases_Bool (bytes_eq k q)) [
  | inl same ↦ (bytes_eq-Decides k q).0 same
  | inr other ↦
      absurd (both_ways (lower q k) (high (lower k q) (lower q k) c)
      (is_above k q (low (lower k q) (lower q k) c) other))
]
  where
    high : (a b : Bool) → (not a && not b) ≡ true → b ≡ false
    high true b h = absurd (let never : false ≡ true = h in cc)
    high false true h = absurd (let never : false ≡ true = h in cc)
    high false false h = refl

-- So the row of a key is all that its span has.
pub key_matches : (q : KeyBytes) (c : Content) (there : Contents) → c ≡ there q
    → Matches (record { span = point q; rows = row_for q c }) there
key_matches q c there is = record {
  rows = λ k inside. let same : k ≡ q = covers_one q k inside in
      subst (λ (x : KeyBytes). row_of x (row_for q c) ≡ there x) (sym same) (own c ∙ is);
  within = All-from_recursion (λ (r : Row). covers (point q) r.key ≡ true) (row_for q c)
      (each_within c);
  order = ordered c;
}
  where
    own : (d : Content) → row_of q (row_for q d) ≡ d
    own None = refl
    own (Some b) = rw ((bytes_eq-Decides q q).1 refl) refl

    each_within : (d : Content) → AllByRecursion (λ (r : Row). covers (point q) r.key ≡ true)
        (row_for q d)
    each_within None = tt
    each_within (Some b) = (covers_own q, tt)

    ordered : (d : Content) → AreInKeyOrder (row_for q d)
    ordered None = tt
    ordered (Some b) = (tt, tt)

-- A read of a key's span matches just where it has that row.
pub key_still : (q : KeyBytes) (c : Content) (span : SpanView) (rs : List Row) (there : Contents)
    → span ≡ point q → c ≡ there q
    → (rs ≡ row_for q c) ↔ Matches (record { span = span; rows = rs }) there
key_still q c span rs there e is = (
  λ same. subst (λ (s : SpanView). Matches (record { span = s; rows = rs }) there) (sym e)
      (subst (λ (qs : List Row). Matches (record { span = point q; rows = qs }) there) (sym same)
      (key_matches q c there is)),
  λ m. matches_once (point q) rs (row_for q c) there
      (subst (λ (s : SpanView). Matches (record { span = s; rows = rs }) there) e m)
      (key_matches q c there is),
)
