-- Proves the contract of `Lease::write_key`. Writes a key, as `write` does, and holds its latch
-- meanwhile.
use Rattle.std.proofs.Common.{rules}
use Rattle.example_lease_holder.specs.ReadSeats.{seen_by}
use Rattle.example_lease_holder.proofs.Plans.{clear_at}
use Rattle.example_lease_holder.proofs.lease.Lease.write_key.Goals as goal

pub returns-clause-clear : goal.returns-clause-clear
returns-clause-clear g c =
    clear_at (seen_by c.write.new.me.seat) c.deref_mut.result.now.span c.args.key.now
    c.args.wanted.by c.in_ok-at.at c.in_ok-reported.reported _ (search rules) (search rules)
    c.in_ok-reported.ensures.clear
