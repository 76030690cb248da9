-- Proves the loop invariants of `are_within`. Whether each key that is written lies in a span.
use Rattle.std.proofs.Common.{◌≡◌, drop}
use Rattle.mvcc_versions.specs.Versions.{are_within}
use Rattle.mvcc_range.proofs.range.are_within.Given as goal

abbrev pub invariant-loop-write : goal.invariant-loop-write
invariant-loop-write l = are_within (drop l.write-index l.writes) l.outer
    ≡ are_within l.writes l.outer
