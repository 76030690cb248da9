-- One mark more.
use Rattle.std.proofs.Common.{◌≡◌, ◌++◌, length, rules}
use Rattle.std.specs.Int.{w64, to_be_bytes}
use Rattle.timestamp_cache.proofs.SummaryMarks.{written_first, written_more, written_last}
use Rattle.timestamp_cache.proofs.summary_writing.put_marks.Goals as goal

pub loop-mark-init : goal.loop-mark-init
loop-mark-init c =
    let number : c.extend_from_slice.new.self.items ≡ c.args.out.now.items ++ to_be_bytes w64
    (length c.args.marks.now) = search rules in
    written_first c.args.out.now.items c.extend_from_slice.new.self.items c.args.marks.now number

pub loop-mark-preserved : goal.loop-mark-preserved
loop-mark-preserved c =
    written_more c.args.out.now.items c.loop-mark.out.items c.put_mark.new.out.items
    c.args.marks.now c.loop-mark.mark-index c.mark-item.result
    c.loop-mark-test.true c.mark-item.is c.in_ok-put_mark.ensures.written
    c.in_ok-put_mark.ensures.made c.loop-mark.invariant

pub returns-clause-written : goal.returns-clause-written
returns-clause-written c = (written_last c.args.out.now.items c.loop-mark.out.items c.args.marks.now
    c.loop-mark.mark-index c.loop-mark-test.false c.loop-mark.invariant).0

pub returns-clause-made : goal.returns-clause-made
returns-clause-made c = (written_last c.args.out.now.items c.loop-mark.out.items c.args.marks.now
    c.loop-mark.mark-index c.loop-mark-test.false c.loop-mark.invariant).1
