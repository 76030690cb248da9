-- A lookup answers no less than any Add that overlaps its span.
use Rattle.tsc_striped.proofs.Histories.{kept_up_over}
use Rattle.tsc_striped.proofs.laws.kept_up.Goals as goal

pub returns : goal.returns
returns c = kept_up_over
