-- The span that is handed on is the one that was named.
use Rattle.std.proofs.Common.{◌∙◌, ap}
use Rattle.tsc_cache.specs.State.{look}
use Rattle.tsc_cache.proofs.cache.Cache.get_max_counted.Goals as goal

pub returns-clause-stands : goal.returns-clause-stands
returns-clause-stands c config s stands = c.lookup.ensures.stands config s stands ∙
    ap (look s) c.borrowed.ensures
