-- Nothing lies above the last cut.
use Rattle.std.proofs.lemmas.Bool.{both_ways}
use Rattle.tsc_span.specs.Span.{last, is_below}
use Rattle.tsc_span.specs.Cuts.{cut_of}
use Rattle.timestamp_cache.proofs.Within.{none_above_last}
use Rattle.timestamp_cache.proofs.hand_over.start_of.Goals as goal

pub unreachable-requires : goal.unreachable-requires
unreachable-requires c = both_ways (is_below last (cut_of c.args.to))
    (none_above_last (cut_of c.args.to)) (rw c.in-Last.is at c.requires)
