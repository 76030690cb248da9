-- Proves the contract of `Lease::take_over`. The seat takes in all that the latch hands on.
use Rattle.example_lease_holder.proofs.Carried.{still_all}
use Rattle.example_lease_holder.proofs.lease.Lease.take_over.Goals as goal

pub invariant_of-held : goal.invariant_of-held
invariant_of-held g c =
    let held = c.args.held.now in
    let all = still_all g.G.Range.cache held.handed.seat c.meet.new.second held.span
    held.answered.items c.meet.ensures.second_on held.handed.is held.added in
    ((all.0, tt), (held.whole, (all.1, tt)))
