-- A lookup that tries answers, or gives up.
use Rattle.tsc_striped_leases.proofs.Looking.{tries_up, gives_up}
use Rattle.tsc_striped_leases.proofs.lookups.TryingLookup.look_up.Goals as goal

pub returns-clause-looked : goal.returns-clause-looked
returns-clause-looked c = tries_up c.args.seat.now c.try_get_max.new.seat c.args.span.now
    c.try_get_max.result c.try_get_max.ensures

pub returns-clause-refused : goal.returns-clause-refused
returns-clause-refused c = gives_up c.args.seat.now c.try_get_max.new.seat c.args.span.now
    c.try_get_max.result c.try_get_max.ensures
