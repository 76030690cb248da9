-- Proves the loop invariants of `rows_from`. The rows of a span, whose first end key is given, as
-- of a time.
use Rattle.std.proofs.Common.{◌≡◌, ◌++◌}
use Rattle.mvcc_versions.specs.RowsIn.{rows_in}
use Rattle.mvcc_versions.proofs.RowsAsOf.{AreSorted}
use Rattle.mvcc_versions.proofs.rows.rows_from.Given as goal

-- With those of the keys that are left, the rows are all there are.
abbrev pub invariant-loop-key : goal.invariant-loop-key
invariant-loop-key l = record {
  so_far : l.rows.items ++ rows_in l.span l.at l.key-iterator
      ≡ rows_in l.span l.at l.chains.entries;
  sorted : AreSorted l.key-iterator;
}
