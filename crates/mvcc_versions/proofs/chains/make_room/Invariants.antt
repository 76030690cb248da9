-- Proves the loop invariants of `make_room`. Makes a chain, where there is none, for each key that
-- is written, so that `link_all` needs no memory.
use Rattle.std.proofs.Common.{◌≡◌, take, length}
use Rattle.timestamp_cache.specs.Words.{KeyBytes}
use Rattle.mvcc_versions.specs.Versions.{chain_of}
use Rattle.mvcc_versions.specs.Maps.{HaveRoom}
use Rattle.mvcc_versions.proofs.chains.make_room.Given as goal

-- No key has got a version, and so many have room for all.
abbrev pub invariant-loop-write : goal.invariant-loop-write
invariant-loop-write l = record {
  same : (k : KeyBytes) → chain_of l.chains.entries k ≡ chain_of l.initial.chains.entries k;
  room : HaveRoom (length l.writes) l.chains.entries (take l.write-index l.writes);
}
