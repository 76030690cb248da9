-- Proves the loop invariants of `place_of`. How many rows have a lower key.
use Rattle.std.proofs.Common.{◌≡◌, ◌+◌, ◌≤◌, drop}
use Rattle.mvcc_versions.specs.OwnRows.{place_of}
use Rattle.mvcc_versions.proofs.own_writes.place_of.Given as goal

-- The place is how many rows there were, and how many are left that are lower.
abbrev pub invariant-loop-row : goal.invariant-loop-row
invariant-loop-row l = (l.place ≤ l.row-index) × (l.place + place_of (drop l.row-index l.rows) l.key
    ≡ place_of l.rows l.key)
