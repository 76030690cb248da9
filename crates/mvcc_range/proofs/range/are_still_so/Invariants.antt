-- Proves the loop invariants of `are_still_so`. Whether some reads are still what is there as of a
-- time.
use Rattle.std.proofs.Common.{take}
use Rattle.std.specs.List.{All}
use Rattle.mvcc_versions.specs.Versions.{as_of, Matches}
use Rattle.mvcc_range.proofs.range.are_still_so.Given as goal

-- So many are.
abbrev pub invariant-loop-read : goal.invariant-loop-read
invariant-loop-read l = All (λ r. Matches r (as_of l.at l.versions))
    (take l.read-index l.reads)
