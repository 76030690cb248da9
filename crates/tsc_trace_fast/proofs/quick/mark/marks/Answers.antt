-- Proves the contract of `marks`. The marks of a batch.
use Rattle.tsc_trace_fast.proofs.Each.{marks_got}
use Rattle.tsc_trace_fast.proofs.quick.mark.marks.Goals as goal

pub returns : goal.returns
returns c = marks_got c.args.reader.now c.mark_list.new.reader c.in_ok-marks.marks.items
    c.new.result c.in_ok-marks.ensures c.new.ensures
