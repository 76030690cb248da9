-- Proves that `add_from` ends.
use Rattle.std.proofs.Common.{◌-◌}
use Rattle.tsc_striped.proofs.wide_adds.+add_from.Given as goal

abbrev pub decreases-add_from : goal.decreases-add_from
decreases-add_from g l = l.batch.now.last - l.from
