-- What is copied, with what is left, is all.
use Rattle.std.proofs.Common.{◌≡◌, ◌++◌, drop}
use Rattle.timestamp_cache.specs.HandOver.{marks_reported}
use Rattle.timestamp_cache.proofs.hand_over.ReadSummary.to_marks.Given as goal

abbrev pub invariant-loop-mark : goal.invariant-loop-mark
invariant-loop-mark l = l.marks.items ++ drop l.mark-index l.self.marks ≡ marks_reported l.self
