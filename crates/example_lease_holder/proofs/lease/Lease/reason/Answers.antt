-- Proves the contract of `Lease::reason`. What the cache answers of a key to the seat that is
-- handed on with its latch.
use Rattle.example_lease_holder.proofs.Carried.{still_all}
use Rattle.example_lease_holder.proofs.lease.Lease.reason.Goals as goal

pub invariant_of-held : goal.invariant_of-held
invariant_of-held g c =
    let held = c.args.held.now in
    let all = still_all g.G.Range.cache held.handed.seat c.answer.new.seat held.span
    held.answered.items c.answer.ensures.goes_on held.handed.is held.added in
    ((all.0, tt), (held.whole, (all.1, tt)))
