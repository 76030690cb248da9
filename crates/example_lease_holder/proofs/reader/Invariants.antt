-- Proves the loop invariants of `reader`. The transaction that a read is by.
use Rattle.std.proofs.Common.{◌≡◌, drop}
use Rattle.example_lease_holder.specs.Texts.{reader}
use Rattle.example_lease_holder.proofs.reader.Given as goal

-- The first one among those that are left is the first one of all.
abbrev pub invariant-loop-plan : goal.invariant-loop-plan
invariant-loop-plan l = reader l.read.owner (drop l.plan-index l.plans) ≡ reader l.read.owner
    l.plans
