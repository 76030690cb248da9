-- Proves the loop invariants of `latches_of`. A latch for each key, in their order.
use Rattle.std.proofs.Common.{◌≡◌, drop}
use Rattle.timestamp_cache.proofs.Rows.{IsPartWay}
use Rattle.example_lease_holder.proofs.latches_of.Given as goal

-- The latches so far, each of its key.
abbrev pub invariant-loop-row : goal.invariant-loop-row
invariant-loop-row g l = IsPartWay (λ row latch. latch.key.now ≡ row.0.now) l.fn.keys
    l.latches.items (drop l.row-index l.fn.keys)
