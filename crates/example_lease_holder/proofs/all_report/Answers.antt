-- Proves the contract of `all_report`. Has all threads print what they have to tell, in their
-- order, where each came through its turn.
use Rattle.std.proofs.Common.{rules}
use Rattle.example_lease_holder.specs.Turns.{HasSpoken}
use Rattle.timestamp_cache.proofs.Rows.{nothing_made, one_more_made, all_made}
use Rattle.example_lease_holder.proofs.all_report.Goals as goal

pub loop-worker-init : goal.loop-worker-init
loop-worker-init g c = nothing_made HasSpoken c.args.ended.items c.new-after.result.items
    c.into_iter-worker-iterator.result.rest.items c.new-after.ensures.items
    c.into_iter-worker-iterator.ensures.into_iter_gives.0

pub loop-worker-preserved : goal.loop-worker-preserved
loop-worker-preserved g c =
    one_more_made HasSpoken c.args.ended.items c.loop-worker.after.items c.push.new.self.items
    c.loop-worker.worker-iterator.rest.items c.next.new.self.rest.items
    c.in-Some.worker c.report.new.self c.loop-worker.invariant c.in-Some.ensures.steps.0
    c.in_ok-push.ensures.items
    (record {
      worker = c.in_ok-worker.worker;
      through = c.in_ok-worker.was;
      me = c.report.ensures.same.0;
      plan = c.report.ensures.same.1;
      wrote = c.report.ensures.same.2;
      reported = c.in_ok-report.ensures.reported;
    })

pub returns : goal.returns
returns g c = all_made HasSpoken c.args.ended.items c.loop-worker.after.items
    c.loop-worker.worker-iterator.rest.items c.loop-worker.invariant (search rules)
