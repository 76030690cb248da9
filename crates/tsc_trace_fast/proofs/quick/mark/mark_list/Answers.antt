-- Proves the contract of `mark_list`. A list of marks, however many.
use Rattle.std.proofs.Common.{◌≡◌, ◌∷◌, [], ◌++◌, Some, arith}
use Rattle.json.specs.Json.{after_end_array}
use Rattle.tsc_trace_format.specs.TraceText.{mark_of}
use Rattle.tsc_trace_fast.proofs.Each.{each_begin, each_go_on, each_over}
use Rattle.tsc_trace_fast.proofs.quick.mark.mark_list.Goals as goal

pub marks-init : goal.marks-init
marks-init c = each_begin 2 mark_of _ _ c.new-marks.ensures.items

pub marks-preserved : goal.marks-preserved
marks-preserved c =
    let same : c.take_end_array.new.self ≡ c.marks.reader = grind arith in
    let pushed : c.push.new.self.items ≡ c.marks.marks.items ++ c.in_ok-mark.mark ∷ [] =
    grind arith in
    each_go_on 2 mark_of c.open_array.new.reader c.marks.reader c.mark.new.reader
    c.marks.marks.items c.push.new.self.items c.in_ok-mark.mark c.marks.invariant
    (rw same at c.in_ok-mark.ensures) pushed

pub returns : goal.returns
returns c =
    let over : after_end_array c.marks.reader ≡ Some c.take_end_array.new.self = grind arith in
    each_over 2 mark_of c.args.reader.now c.open_array.new.reader c.marks.reader
    c.take_end_array.new.self c.marks.marks.items c.in_ok-open_array.ensures
    c.marks.invariant over
