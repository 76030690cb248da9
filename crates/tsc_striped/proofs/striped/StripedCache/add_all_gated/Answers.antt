-- Proves the contract of `StripedCache::add_all_gated`. An Add of which the gate is told.
use Rattle.tsc_striped.proofs.Adds.{reported_waited}
use Rattle.tsc_striped.proofs.striped.StripedCache.add_all_gated.Goals as goal

pub returns-clause-gate : goal.returns-clause-gate
returns-clause-gate g c =
    reported_waited c.add_marks.result c.waited.result _ c.add_marks.ensures.gate c.waited.ensures
