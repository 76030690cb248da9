-- Proves that `look_above` ends.
use Rattle.std.proofs.Common.{◌-◌}
use Rattle.tsc_striped.proofs.wide.+look_above.Given as goal

abbrev pub decreases-look_above : goal.decreases-look_above
decreases-look_above l = l.last - l.stripe
