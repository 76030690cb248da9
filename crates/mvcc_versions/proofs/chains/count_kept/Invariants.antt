-- Proves the loop invariants of `count_kept`. How many versions of a key are of use from a time on.
use Rattle.std.proofs.Common.{◌≡◌, ◌+◌, ◌++◌, take, length}
use Rattle.mvcc_versions.specs.Versions.{kept_from}
use Rattle.mvcc_versions.proofs.chains.count_kept.Given as goal

-- So many versions are kept so far, and of those that are left the ones that are kept of them
-- alone.
abbrev pub invariant-loop-version : goal.invariant-loop-version
invariant-loop-version l = record {
  counted : l.count + length l.version-iterator ≡ length l.chain;
  parts : take l.count l.chain ++ l.version-iterator ≡ l.chain;
  kept : take l.count l.chain ++ kept_from l.from l.version-iterator ≡ kept_from l.from l.chain;
}
