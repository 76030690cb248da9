-- Proves that `share_from` ends.
use Rattle.std.proofs.Common.{◌-◌}
use Rattle.tsc_striped.proofs.sharing.+share_from.Given as goal

abbrev pub decreases-share_from : goal.decreases-share_from
decreases-share_from l = l.last - l.stripe
