-- Proves the contract of `left_of`. The threads are over: what is left of each.
use Rattle.std.proofs.Common.{refl, rules}
use Rattle.example_lease_holder.specs.Turns.{IsLeftOf}
use Rattle.timestamp_cache.proofs.Rows.{nothing_made, one_more_made, all_made}
use Rattle.example_lease_holder.proofs.left_of.Goals as goal

pub loop-worker-init : goal.loop-worker-init
loop-worker-init g c = nothing_made IsLeftOf c.args.workers.items c.new-left.result.items
    c.into_iter-worker-iterator.result.rest.items c.new-left.ensures.items
    c.into_iter-worker-iterator.ensures.into_iter_gives.0

pub loop-worker-preserved : goal.loop-worker-preserved
loop-worker-preserved g c =
    let worker = c.in-Some.worker in
    one_more_made IsLeftOf c.args.workers.items c.loop-worker.left.items c.push.new.self.items
    c.loop-worker.worker-iterator.rest.items c.next.new.self.rest.items
    worker (record { seat = worker.me.seat; plan = worker.plan; wrote = worker.wrote })
    c.loop-worker.invariant c.in-Some.ensures.steps.0 c.in_ok-push.ensures.items
    (record { seat = refl; plan = refl; wrote = refl })

pub returns : goal.returns
returns g c = all_made IsLeftOf c.args.workers.items c.loop-worker.left.items
    c.loop-worker.worker-iterator.rest.items c.loop-worker.invariant (search rules)
