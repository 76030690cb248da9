-- Proves the contract of `read_log`. The log whose text these bytes are, as `log_text` writes it.
use Rattle.std.proofs.Common.{◌≡◌, ◌+◌, Err, arith, rules}
use Rattle.tsc_trace.specs.declared.log_reader.LogFault.TheVariants.{Text}
use Rattle.tsc_trace.proofs.LogReadings.{no_feed, no_line, wrong_line, too_long, refused, one_more, whole_log, line_shorter}
use Rattle.tsc_trace.proofs.log_reader.read_log.Goals as goal

pub returns-then-number-eq-MOST_LINES : goal.returns-then-number-eq-MOST_LINES
returns-then-number-eq-MOST_LINES c =
    let so_far = c.loop-rest.invariant in
    too_long c.args.bytes.now c.loop-rest.rest.now c.loop-rest.reader.lines.items c.loop-rest.number
    so_far.text so_far.writable so_far.counted (omega arith) c.loop-rest-test.ensures

pub returns-in_err-text : goal.returns-in_err-text
returns-in_err-text c =
    let so_far = c.loop-rest.invariant in
    let same : c.from_residual.result ≡ Err (Text (c.loop-rest.number + 1)) = search rules in
    let without = rw c.in_err-text.ensures.ok_part at c.cut_line.ensures in
    rw same
    (wrong_line c.args.bytes.now c.loop-rest.rest.now c.loop-rest.reader.lines.items
    c.loop-rest.number so_far.text so_far.writable so_far.counted (omega arith)
    c.loop-rest-test.ensures (no_feed c.loop-rest.rest.now without))

pub returns-in_err-add_line : goal.returns-in_err-add_line
returns-in_err-add_line c =
    let so_far = c.loop-rest.invariant in
    let same : c.from_residual-in_err-add_line.result ≡ Err c.in_err-add_line.field-0.0 =
    search rules in
    let cut = rw c.in_ok-text.ensures.ok_part at c.cut_line.ensures in
    rw same
    (refused c.args.bytes.now c.in_err-add_line.field-0.0 c.loop-rest.number c.in_ok-text.text.now
    c.in_err-add_line.ensures
    (λ wrong. wrong_line c.args.bytes.now c.loop-rest.rest.now c.loop-rest.reader.lines.items
    c.loop-rest.number so_far.text so_far.writable so_far.counted
    (omega arith) c.loop-rest-test.ensures
    (no_line c.loop-rest.rest.now c.in_ok-text.text.now c.in_ok-text.after.now cut wrong)))

pub loop-rest-preserved : goal.loop-rest-preserved
loop-rest-preserved c =
    let so_far = c.loop-rest.invariant in
    let cut = rw c.in_ok-text.ensures.ok_part at c.cut_line.ensures in
    let more = one_more c.args.bytes.now c.loop-rest.rest.now c.in_ok-text.text.now
    c.in_ok-text.after.now c.loop-rest.reader.lines.items c.add_line.new.self.lines.items
    so_far.text so_far.writable cut c.in_ok-add_line.ensures in
    record {
      text = more.0;
      writable = more.1;
      counted = let long = more.2 in omega arith;
      within = omega arith;
    }

pub returns : goal.returns
returns c =
    let so_far = c.loop-rest.invariant in
    rw c.of.ensures
    (whole_log c.args.bytes.now c.loop-rest.rest.now c.loop-rest.reader.lines.items
    c.loop-rest.number so_far.text so_far.writable so_far.counted so_far.within
    c.loop-rest-test.ensures)

pub loop-rest-smaller : goal.loop-rest-smaller
loop-rest-smaller c = line_shorter c.loop-rest.rest.now c.in_ok-text.text.now c.in_ok-text.after.now
    (rw c.in_ok-text.ensures.ok_part at c.cut_line.ensures)
