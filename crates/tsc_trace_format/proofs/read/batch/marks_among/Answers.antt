-- The marks are read one after another.
use Rattle.std.proofs.Common.{map, arith}
use Rattle.serde_json.specs.View.{view}
use Rattle.tsc_trace_format.specs.TraceText.{marks_in}
use Rattle.tsc_trace_format.proofs.MarksReading.{none_so_far, one_more_mark, marks_are_done}
use Rattle.tsc_trace_format.proofs.read.batch.marks_among.Goals as goal

pub loop-value-init : goal.loop-value-init
loop-value-init c = none_so_far c.new.result (marks_in (map view c.args.values.now))
    c.new.ensures.items

pub loop-value-preserved : goal.loop-value-preserved
loop-value-preserved c =
    let l = c.loop-value in
    one_more_mark l.marks c.with_mark-marks.result c.mark.result c.args.values.now l.value-index
    c.value-item.result (marks_in (map view c.args.values.now)) (omega arith) c.value-item.is
    c.with_mark-marks.ensures c.mark.ensures l.invariant

pub returns : goal.returns
returns c = marks_are_done c.loop-value.marks c.args.values.now c.loop-value.value-index
    (marks_in (map view c.args.values.now)) (omega arith) c.loop-value.invariant
