-- Every span overlaps itself, but for the empty one.
use Rattle.std.proofs.Common.{◌∙◌}
use Rattle.tsc_span.proofs.Overlaps.{overlaps_itself}
use Rattle.tsc_span.proofs.laws.overlaps_itself.Goals as goal

pub returns : goal.returns
returns c = c.overlaps.ensures ∙ overlaps_itself _ _ c.cuts-cuts.ensures.value
    c.cuts-cuts.ensures.order
