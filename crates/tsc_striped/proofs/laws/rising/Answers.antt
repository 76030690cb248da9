-- No answer sinks, and no floor does.
use Rattle.tsc_striped.proofs.Histories.{rising_over}
use Rattle.tsc_striped.proofs.laws.rising.Goals as goal

pub returns : goal.returns
returns c = rising_over
