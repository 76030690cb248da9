-- Proves the loop invariants of `Held::value_at`. What the key is at a time.
use Rattle.std.proofs.Common.{◌≡◌, drop}
use Rattle.example_lease_holder.specs.Versions.{latest, value_at}
use Rattle.example_lease_holder.proofs.lease.Held.value_at.Given as goal

-- what was found so far, with the versions that are left, comes to what is found in all
abbrev pub invariant-loop-version : goal.invariant-loop-version
invariant-loop-version g l = latest l.since l.value (drop l.version-index l.self.versions.items)
    l.at ≡ value_at l.self.versions.items l.at
