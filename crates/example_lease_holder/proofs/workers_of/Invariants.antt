-- Proves the loop invariants of `workers_of`. A thread for each plan, in their order.
use Rattle.std.proofs.Common.{drop}
use Rattle.example_lease_holder.specs.Turns.{IsNew}
use Rattle.timestamp_cache.proofs.Rows.{IsPartWay}
use Rattle.example_lease_holder.proofs.workers_of.Given as goal

-- The workers so far, each of its plan.
abbrev pub invariant-loop-plan : goal.invariant-loop-plan
invariant-loop-plan g l = IsPartWay IsNew l.fn.plans l.workers.items (drop l.plan-index l.fn.plans)
