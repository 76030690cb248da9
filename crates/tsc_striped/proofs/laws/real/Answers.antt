-- A lookup answers what floors and Adds come to.
use Rattle.tsc_striped.proofs.Reals.{real_over}
use Rattle.tsc_striped.proofs.laws.real.Goals as goal

pub returns : goal.returns
returns c = real_over
