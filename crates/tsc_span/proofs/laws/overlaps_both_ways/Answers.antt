-- Which of two spans is named first makes no difference to their overlapping.
use Rattle.tsc_span.proofs.Overlaps.{overlaps_both_ways}
use Rattle.tsc_span.proofs.laws.overlaps_both_ways.Goals as goal

pub returns : goal.returns
returns c = overlaps_both_ways
