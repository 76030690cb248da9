-- One mark more is there.
use Rattle.std.proofs.Common.{sym}
use Rattle.tsc_trace_format.proofs.read.batch.with_mark.Goals as goal

pub returns : goal.returns
returns c = (
  c.in_ok-marks.marks,
  c.in_ok-marks.mark,
  sym c.in_ok-marks.ensures,
  c.in_ok-push.ensures.items,
)
