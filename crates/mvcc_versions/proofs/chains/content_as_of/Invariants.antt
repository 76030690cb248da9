-- Proves the loop invariants of `content_as_of`. What a key has as of a time, by its versions.
use Rattle.std.proofs.Common.{◌≡◌}
use Rattle.mvcc_versions.specs.Versions.{content_as_of}
use Rattle.mvcc_versions.proofs.chains.content_as_of.Given as goal

-- The versions that are left say what all say.
abbrev pub invariant-loop-version : goal.invariant-loop-version
invariant-loop-version l = content_as_of l.at l.version-iterator ≡ content_as_of l.at l.chain
