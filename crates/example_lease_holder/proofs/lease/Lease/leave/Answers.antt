-- Proves the contract of `Lease::leave`. The latch hands on what is in this front.
use Rattle.example_lease_holder.proofs.Carried.{still_all}
use Rattle.example_lease_holder.proofs.lease.Lease.leave.Goals as goal

pub invariant_of-held : goal.invariant_of-held
invariant_of-held g c =
    let held = c.args.held.now in
    let all = still_all g.G.Range.cache held.handed.seat c.learn.new.seat held.span
    held.answered.items c.learn.ensures.seat held.handed.is held.added in
    ((all.0, tt), (held.whole, (all.1, tt)))
