-- A lookup answers no less than any Add that overlaps its span, also one that was not kept, and one
-- whose page is gone.
use Rattle.tsc_cache.proofs.Histories.{kept_up}
use Rattle.tsc_cache.proofs.laws.kept_up.Goals as goal

pub returns : goal.returns
returns c = kept_up
