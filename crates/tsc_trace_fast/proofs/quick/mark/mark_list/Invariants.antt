-- Proves the loop invariants of `mark_list`. A list of marks, however many.
use Rattle.std.proofs.Common.{length}
use Rattle.tsc_trace_format.specs.TraceText.{mark_of}
use Rattle.tsc_trace_fast.proofs.Each.{HasRead}
use Rattle.tsc_trace_fast.proofs.quick.mark.mark_list.Given as goal

abbrev pub invariant-marks : goal.invariant-marks
invariant-marks l = HasRead 2 mark_of l.initial.reader l.marks.items l.reader

abbrev pub decreases-marks : goal.decreases-marks
decreases-marks l = length l.reader
