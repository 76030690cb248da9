-- Serializability as textbooks have it.
use Rattle.std.proofs.Common.{◌≡◌, ◌∙◌, inl, inr, refl, sym, ap, subst, Bool, true, false, ℕ, ◌+◌}
use Rattle.std.proofs.Common.{List, [], ◌∷◌, if◌then◌else◌, Some, None, Option, arith}
use Rattle.std.specs.Prelude.{unwrap_or}
use Rattle.std.specs.List.{AllByRecursion, sum_by}
use Rattle.std.specs.Str.{bytes_eq}
use Rattle.std.proofs.lemmas.Bool.{cases_Bool, both_ways}
use Rattle.std.proofs.lemmas.Slice.Eq.{bytes_eq-Decides}
use Rattle.std.proofs.lemmas.List.Sums.{sum_by-cons}
use Rattle.std.proofs.lemmas.List.Elements.{All-contains}
use Rattle.tsc_time.proofs.Members.{IsIn, IsIn-from_Contains, Contains-from_IsIn}
use Rattle.tsc_span.specs.Span.{covers}
use Rattle.timestamp_cache.specs.Words.{KeyBytes, is_before}
use Rattle.mvcc_versions.specs.Versions.{Contents, Row, Read, row_of, AreInKeyOrder, latest, Matches}
use Rattle.mvcc_versions.proofs.Lists.{each}
use Rattle.mvcc_versions.proofs.RowsAsOf.{lower, above_other}
use Rattle.mvcc_range.specs.Serial.{
  Transaction,
  empty,
  executed,
  executed_all,
  IsSerial,
  placed,
  serial_order,
}
use Rattle.mvcc_range.specs.Laws.{Serializable}
use Rattle.mvcc_range.proofs.Placing.{AreOrdered, ordered}
use Rattle.mvcc_shared.specs.Textbook.{IsScan, Runs, IsInTimeOrder, IsReordered}
use Rattle.mvcc_shared.specs.Textbook.{TextbookSerializable}

-- a key with a value, as a row
abbrev row : KeyBytes → List ℕ → Row
row k v = record { key = k; value = v }

same_key : (k : KeyBytes) → bytes_eq k k ≡ true
same_key k = (bytes_eq-Decides k k).1 refl

-- a lower key is another one
lower_other : (a b : KeyBytes) → lower a b ≡ true → bytes_eq a b ≡ false
lower_other a b below = elim (cases_Bool (bytes_eq a b)) [
  | inr other ↦ other
  | inl same ↦ absurd (both_ways (bytes_eq b a) (above_other a b below)
      (subst (λ (k : KeyBytes). bytes_eq b k ≡ true)
      (sym ((bytes_eq-Decides a b).0 same)) (same_key b)))
]

among : (P : Row → Type 0) (rows : List Row) (r : Row) → AllByRecursion P rows → IsIn rows r → P r
among P [] r all is = absurd is
among P (q ∷ rows) r all (inl same) = subst P same all.0
among P (q ∷ rows) r all (inr later) = among P rows r all.1 later

-- what rows say of a key that is among them,
row_among : (rows : List Row) (k : KeyBytes) (v : List ℕ) → AreInKeyOrder rows
    → IsIn rows (row k v) → row_of k rows ≡ Some v
row_among [] k v o is = absurd is
row_among (r ∷ rows) k v o (inl same) =
    ap (λ (q : Row). if bytes_eq q.key k then Some q.value else row_of k rows) same
    ∙ ap (λ (b : Bool). if b then Some v else row_of k rows) (same_key k)
row_among (r ∷ rows) k v o (inr later) =
    ap (λ (b : Bool). if b then Some r.value else row_of k rows)
    (lower_other r.key k (among (λ (q : Row). lower r.key q.key ≡ true) rows (row k v) o.0 later))
    ∙ row_among rows k v o.1 later

-- and a key of which they say something
among_row : (rows : List Row) (k : KeyBytes) (v : List ℕ) → row_of k rows ≡ Some v
    → IsIn rows (row k v)
among_row [] k v says = absurd (none_is_no (sym says))
  where
    none_is_no : Some v ≡ None → ⊥
    none_is_no e = both_ways true (ap has e) refl
      where
        has : Option (List ℕ) → Bool
        has None = false
        has (Some w) = true
among_row (r ∷ rows) k v says = elim (cases_Bool (bytes_eq r.key k)) [
  | inl same ↦ let is : Some r.value ≡ Some v =
      sym (ap (λ (b : Bool). if b then Some r.value else row_of k rows) same) ∙ says in
      inl (λ i. row ((bytes_eq-Decides r.key k).0 same i)
      (ap (λ (c : Option (List ℕ)). unwrap_or c []) is i))
  | inr other ↦ inr (among_row rows k v
      (sym (ap (λ (b : Bool). if b then Some r.value else row_of k rows) other) ∙ says))
]

-- a read that is just what is there is a scan
pub scans : (read : Read) (there : Contents) → Matches read there
    → IsScan read.span read.rows there
scans read there m = record {
  just = λ k v. (
    (λ has. let within = All-contains (λ (r : Row). covers read.span r.key ≡ true) read.rows
        (row k v) m.within has in (
          within,
          sym (m.rows k within)
              ∙ row_among read.rows k v m.order (IsIn-from_Contains read.rows (row k v) has),
        )),
    (λ is. Contains-from_IsIn read.rows (row k v) (among_row read.rows k v (m.rows k is.0 ∙ is.1))),
  );
  order = m.order;
}

-- transactions that are serial run so
runs : (there : Contents) (ts : List Transaction) (end : Contents) → IsSerial there ts
    → ((k : KeyBytes) → end k ≡ executed_all there ts k) → Runs there ts end
runs there [] end serial final = final
runs there (t ∷ ts) end serial final = (
  each (λ (r : Read). Matches r there) (λ (r : Read). IsScan r.span r.rows there) t.reads
      (λ r m. scans r there m) serial.0,
  runs (executed there t) ts end serial.1 final,
)

in_time : (ts : List Transaction) → AreOrdered ts → IsInTimeOrder ts
in_time [] o = tt
in_time (t ∷ ts) o = (o.0, in_time ts o.1)

-- the serial order has just what committed
placed_weighs : (weight : Transaction → ℕ) (t : Transaction) (us : List Transaction)
    → sum_by weight (placed t us) ≡ weight t + sum_by weight us
placed_weighs weight t [] = sum_by-cons weight t []
placed_weighs weight t (u ∷ us) = elim (cases_Bool (is_before t.at u.at)) [
  | inl h ↦ rw h (sum_by-cons weight t (u ∷ us))
  | inr h ↦ rw h (omega (
    arith,
    sum_by-cons weight u (placed t us),
    sum_by-cons weight u us,
    placed_weighs weight t us,
  ))
]

reordered : (ts : List Transaction) → IsReordered (serial_order ts) ts
reordered [] weight = refl
reordered (t ∷ ts) weight = omega (
  arith,
  placed_weighs weight t (serial_order ts),
  sum_by-cons weight t ts,
  reordered ts weight,
)

-- So it follows from what the range's law promises.
pub textbook_serializable : Serializable → TextbookSerializable
textbook_serializable serializable range answered committed run =
    let s = serializable range answered committed run in (
      serial_order committed,
      reordered committed,
      in_time (serial_order committed) (ordered committed),
      runs empty (serial_order committed) (latest range.chains) s.serial s.final,
    )
