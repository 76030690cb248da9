-- Proves the loop invariants of `same_rows`. Tells whether two lists of rows are equal.
use Rattle.std.proofs.Common.{◌≡◌, take}
use Rattle.mvcc_versions.proofs.rows.same_rows.Given as goal

abbrev pub invariant-loop-i : goal.invariant-loop-i
invariant-loop-i l = take l.i l.rows ≡ take l.i l.others
