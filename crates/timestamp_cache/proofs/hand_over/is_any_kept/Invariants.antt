-- Any is kept where one of those that are left is.
use Rattle.std.proofs.Common.{◌≡◌, drop}
use Rattle.tsc_cache.specs.Batch.{is_any_kept}
use Rattle.timestamp_cache.specs.HandOver.{marks_reported}
use Rattle.timestamp_cache.proofs.hand_over.is_any_kept.Given as goal

abbrev pub invariant-loop-mark : goal.invariant-loop-mark
invariant-loop-mark l = is_any_kept l.floor (drop l.mark-index l.summary.marks) ≡
    is_any_kept l.floor (marks_reported l.summary)
