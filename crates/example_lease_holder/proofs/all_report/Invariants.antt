-- Proves the loop invariants of `all_report`. Has all threads print what they have to tell, in
-- their order, where each came through its turn.
use Rattle.example_lease_holder.specs.Turns.{HasSpoken}
use Rattle.timestamp_cache.proofs.Rows.{IsPartWay}
use Rattle.example_lease_holder.proofs.all_report.Given as goal

abbrev pub invariant-loop-worker : goal.invariant-loop-worker
invariant-loop-worker g l = IsPartWay HasSpoken l.fn.ended.items l.after.items
    l.worker-iterator.rest.items
