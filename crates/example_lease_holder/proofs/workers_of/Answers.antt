-- Proves the contract of `workers_of`. A thread for each plan, in their order.
use Rattle.std.proofs.Common.{drop, slice_index_or, ◌+◌}
use Rattle.example_lease_holder.specs.Turns.{IsNew}
use Rattle.timestamp_cache.proofs.Rows.{one_more_made, all_made, left_at, none_left}
use Rattle.example_lease_holder.proofs.workers_of.Goals as goal

pub loop-plan-preserved : goal.loop-plan-preserved
loop-plan-preserved g c =
    let plans = c.args.plans.now in
    let i = c.loop-plan.plan-index in
    one_more_made IsNew plans c.loop-plan.workers.items c.push.new.self.items (drop i plans)
    (drop (i + 1) plans) (slice_index_or plans i _) _ c.loop-plan.invariant
    (left_at plans i _ c.loop-plan-test.true) c.in_ok-push.ensures.items c.in_ok-worker.ensures

pub returns : goal.returns
returns g c =
    let plans = c.args.plans.now in
    let i = c.loop-plan.plan-index in
    all_made IsNew plans c.loop-plan.workers.items (drop i plans) c.loop-plan.invariant
    (none_left plans i c.loop-plan-test.false)
