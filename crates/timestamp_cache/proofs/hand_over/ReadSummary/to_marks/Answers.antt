-- Proves the contract of `ReadSummary::to_marks`. The marks that are added where the summary is
-- applied.
use Rattle.std.proofs.Common.{rules}
use Rattle.timestamp_cache.proofs.hand_over.ReadSummary.to_marks.Goals as goal

pub loop-mark-init : goal.loop-mark-init
loop-mark-init c = search rules
