-- Proves the loop invariants of `rows_over`. Some rows of a span with writes put over them.
use Rattle.std.proofs.Common.{◌≡◌, drop}
use Rattle.mvcc_versions.specs.OwnRows.{put_writes}
use Rattle.mvcc_versions.proofs.own_writes.rows_over.Given as goal

-- With the writes that are left put over them, the rows are all there are.
abbrev pub invariant-loop-write : goal.invariant-loop-write
invariant-loop-write l =
    put_writes l.span l.over.items (drop l.write-index l.writes) ≡ put_writes l.span l.rows l.writes
