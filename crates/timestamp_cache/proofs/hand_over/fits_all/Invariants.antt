-- All fit where those that are left do.
use Rattle.std.proofs.Common.{◌≡◌, drop}
use Rattle.tsc_cache.specs.Batch.{all_fit}
use Rattle.timestamp_cache.specs.HandOver.{marks_reported}
use Rattle.timestamp_cache.proofs.hand_over.fits_all.Given as goal

abbrev pub invariant-loop-mark : goal.invariant-loop-mark
invariant-loop-mark l =
    all_fit l.cache.config (drop l.mark-index l.summary.marks) ≡ all_fit l.cache.config
    (marks_reported l.summary)
