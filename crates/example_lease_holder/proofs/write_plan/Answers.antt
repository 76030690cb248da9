-- Proves the contract of `write_plan`. Writes the key of a plan, by its transaction, under the
-- latch of that key.
use Rattle.example_lease_holder.specs.ReadSeats.{seen_by}
use Rattle.example_lease_holder.proofs.Plans.{may_write_reported}
use Rattle.example_lease_holder.proofs.write_plan.Goals as goal

pub returns-clause-clear : goal.returns-clause-clear
returns-clause-clear g c =
    may_write_reported c.write_key.result c.args.plan.now (seen_by c.write_key.new.me.seat) c.id_of.result
    c.at.result c.id_of.ensures.value c.at.ensures
    c.write_key.ensures.from_on c.write_key.ensures.clear
