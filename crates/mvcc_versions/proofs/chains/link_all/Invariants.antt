-- Proves the loop invariants of `link_all`. Lays down versions that were made for writes, each at
-- the front of its key's chain.
use Rattle.std.proofs.Common.{◌≡◌, drop, length}
use Rattle.timestamp_cache.specs.Words.{KeyBytes}
use Rattle.mvcc_versions.specs.Versions.{chain_of, stored}
use Rattle.mvcc_versions.specs.Maps.{HaveRoom, nodes_of}
use Rattle.mvcc_versions.proofs.chains.link_all.Given as goal

-- The versions that are left are those of the writes that are left, for which there is room, and
-- with them the chains are as they are to be.
abbrev pub invariant-loop-write : goal.invariant-loop-write
invariant-loop-write l = record {
  left : l.rest ≡ nodes_of l.fn.at l.fn.by (drop l.write-index l.writes);
  room : HaveRoom (length (drop l.write-index l.writes)) l.chains.entries l.writes;
  chains : (k : KeyBytes) → stored k l.fn.at l.fn.by (drop l.write-index l.writes)
      (chain_of l.chains.entries k) ≡ stored k l.fn.at l.fn.by l.writes
      (chain_of l.initial.chains.entries k);
}
