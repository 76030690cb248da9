-- Proves the loop invariants of `nodes_of`. The versions that writes lay down at a time, each as a
-- chain of its own.
use Rattle.std.proofs.Common.{◌≡◌, ◌++◌, drop}
use Rattle.mvcc_versions.specs.Maps.{nodes_of}
use Rattle.mvcc_versions.proofs.chains.nodes_of.Given as goal

abbrev pub invariant-loop-write : goal.invariant-loop-write
invariant-loop-write l = l.nodes ++ nodes_of l.at l.by (drop l.write-index l.writes)
    ≡ nodes_of l.at l.by l.writes
