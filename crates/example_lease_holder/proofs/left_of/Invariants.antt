-- Proves the loop invariants of `left_of`. The threads are over: what is left of each.
use Rattle.example_lease_holder.specs.Turns.{IsLeftOf}
use Rattle.timestamp_cache.proofs.Rows.{IsPartWay}
use Rattle.example_lease_holder.proofs.left_of.Given as goal

abbrev pub invariant-loop-worker : goal.invariant-loop-worker
invariant-loop-worker g l = IsPartWay IsLeftOf l.fn.workers.items l.left.items
    l.worker-iterator.rest.items
