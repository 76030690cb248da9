-- Proves the loop invariants of `Lease::latch`. The latch of a key of the range.
use Rattle.std.proofs.Common.{◌≡◌, drop}
use Rattle.std.specs.List.{find}
use Rattle.std.specs.Str.{bytes_eq}
use Rattle.example_lease_holder.proofs.lease.Lease.latch.Given as goal

-- The first one among those that are left is the first one of all.
abbrev pub invariant-loop-latch : goal.invariant-loop-latch
invariant-loop-latch g l =
    find (λ latch. bytes_eq latch.key.now l.key) (drop l.latch-index l.self.latches.items) ≡
    find (λ latch. bytes_eq latch.key.now l.key) l.self.latches.items
