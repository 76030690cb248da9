-- What is copied, with what is left, is all.
use Rattle.std.proofs.Common.{◌≡◌, ◌++◌, drop}
use Rattle.timestamp_cache.specs.HandOver.{marks_reported}
use Rattle.tsc_striped_leases.proofs.marks_of.Given as goal

abbrev pub invariant-loop-mark : goal.invariant-loop-mark
invariant-loop-mark l = l.marks.items ++ drop l.mark-index l.summary.marks ≡ marks_reported
    l.summary
