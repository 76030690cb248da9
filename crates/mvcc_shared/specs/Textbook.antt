-- Serializability as textbooks have it.
use Rattle.std.specs.Prelude.{◌≡◌, ◌↔◌, ℕ, List, [], ◌∷◌, true, false, Some}
use Rattle.std.specs.List.{AllByRecursion, Contains, sum_by}
use Rattle.tsc_span.specs.Span.{covers}
use Rattle.timestamp_cache.specs.Words.{KeyBytes, SpanView, is_before}
use Rattle.mvcc_versions.specs.Versions.{Contents, Row, latest, AreInKeyOrder}
use Rattle.mvcc_range.specs.Serial.{Transaction, empty, executed}
use Rattle.mvcc_range.specs.Steps.{RangeView, Answered, Execution}

-- What a scan of a store with one version of each key answers: a row for each key of the span that
-- has something, and no other row, in the order of the keys.
pub record IsScan (span : SpanView) (rows : List Row) (store : Contents) : Type 0 where
  pub just : (k : KeyBytes) (v : List ℕ) → Contains rows (record { key = k; value = v })
      ↔ ((covers span k ≡ true) × (store k ≡ Some v))
  pub order : AreInKeyOrder rows

-- Transactions run on a store one after another. Each makes its scans, which answer what it was
-- answered, and then its writes.
abbrev pub Runs : Contents → List Transaction → Contents → Type 0
Runs store [] end = (k : KeyBytes) → end k ≡ store k
Runs store (t ∷ ts) end = AllByRecursion (λ r. IsScan r.span r.rows store) t.reads
    × Runs (executed store t) ts end

-- No transaction stands before one of an earlier time.
abbrev pub IsInTimeOrder : List Transaction → Type 0
IsInTimeOrder [] = Unit {0}
IsInTimeOrder (t ∷ ts) = AllByRecursion (λ u. is_before u.at t.at ≡ false) ts × IsInTimeOrder ts

-- Transactions are the same but for their order: however they are weighed, they weigh the same.
abbrev pub IsReordered : List Transaction → List Transaction → Type 0
IsReordered ts us = (weight : Transaction → ℕ) → sum_by weight ts ≡ sum_by weight us

-- Whatever calls were made of a range, there is an order of just the transactions that committed,
-- by their times. Run in that order on a store of one version, which is empty at first, each scan
-- answers as it did, and the store ends with what the range has.
abbrev pub TextbookSerializable : Type 0
TextbookSerializable = (range : RangeView) (answered : List Answered)
    (committed : List Transaction) → Execution range answered committed
    → (order : List Transaction) × IsReordered order committed × IsInTimeOrder order
    × Runs empty order (latest range.chains)
