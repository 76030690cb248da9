-- A lookup that waits answers.
use Rattle.tsc_striped_leases.proofs.Looking.{looks_up}
use Rattle.tsc_striped_leases.proofs.lookups.WaitingLookup.look_up.Goals as goal

pub returns-clause-looked : goal.returns-clause-looked
returns-clause-looked g c = looks_up c.args.seat.now c.get_max.new.seat c.args.span.now
    c.get_max.result c.get_max.ensures
