-- Proves the contract of `Worker::read`. Reads the keys of its transaction, one after another.
use Rattle.std.proofs.Common.{◌∙◌, arith}
use Rattle.tsc_cache.proofs.Beginnings.{begins_on}
use Rattle.example_lease_holder.specs.ReadSeats.{seen_by}
use Rattle.example_lease_holder.proofs.Plans.{one_read_more}
use Rattle.example_lease_holder.proofs.Worker.read.Goals as goal

pub loop-row-preserved : goal.loop-row-preserved
loop-row-preserved g c = record {
  added = one_read_more c.args.self.now.plan.now (seen_by c.read_key.new.self.me.seat)
      (seen_by c.loop-row.self.me.seat) (seen_by c.args.self.now.me.seat) c.loop-row.row-index _
      c.loop-row-test.true c.read_key.ensures.seat c.loop-row.invariant.seat
      c.loop-row.invariant.added c.in_ok-read_key.ensures.added;
  reported = omega (arith, c.in_ok-read_key.ensures.reported, c.loop-row.invariant.reported);
  seat = begins_on _ _ _ c.read_key.ensures.seat c.loop-row.invariant.seat;
  plan = c.read_key.ensures.plan ∙ c.loop-row.invariant.plan;
  wrote = c.read_key.ensures.wrote ∙ c.loop-row.invariant.wrote;
}

pub returns-in_err-read_key-clause-seat : goal.returns-in_err-read_key-clause-seat
returns-in_err-read_key-clause-seat g c =
    begins_on _ _ _ c.read_key.ensures.seat c.loop-row.invariant.seat
