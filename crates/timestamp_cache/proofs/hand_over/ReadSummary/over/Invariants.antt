-- What is told so far, whatever state the cache stands for.
use Rattle.tsc_span.specs.Cuts.{cut_of}
use Rattle.tsc_cache.specs.Keys.{keys_seen}
use Rattle.timestamp_cache.proofs.Walking.{steps_left}
use Rattle.timestamp_cache.proofs.Going.{IsUnderWay}
use Rattle.timestamp_cache.proofs.hand_over.ReadSummary.over.Given as goal

abbrev pub invariant-loop-at : goal.invariant-loop-at
invariant-loop-at l = IsUnderWay l.cache l.fn.self.span (cut_of l.fn.cuts.0) (cut_of l.to)
    (cut_of l.at) l.most l.reported

abbrev pub decreases-loop-at : goal.decreases-loop-at
decreases-loop-at l = steps_left (cut_of l.at) (cut_of l.to) (keys_seen l.cache.pages)
