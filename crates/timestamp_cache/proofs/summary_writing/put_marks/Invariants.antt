-- What is written, with what is left, is all.
use Rattle.std.proofs.Common.{drop}
use Rattle.timestamp_cache.proofs.SummaryMarks.{IsBeingWritten}
use Rattle.timestamp_cache.proofs.summary_writing.put_marks.Given as goal

abbrev pub invariant-loop-mark : goal.invariant-loop-mark
invariant-loop-mark l = IsBeingWritten l.fn.out.items l.out.items l.marks
    (drop l.mark-index l.marks)
