-- Proves the loop invariants of `copies_of`. A copy of some rows.
use Rattle.std.proofs.Common.{◌≡◌, ◌++◌, drop}
use Rattle.mvcc_versions.proofs.own_writes.copies_of.Given as goal

abbrev pub invariant-loop-row : goal.invariant-loop-row
invariant-loop-row l = l.copy.items ++ drop l.row-index l.rows ≡ l.rows
