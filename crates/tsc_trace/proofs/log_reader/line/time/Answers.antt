-- Proves the contract of `time`. A time.
use Rattle.tsc_trace.proofs.FieldReading.{time_none, time_without_wall, time_without_logical, time_made}
use Rattle.tsc_trace.proofs.log_reader.line.time.Goals as goal

pub returns-in_err-wall : goal.returns-in_err-wall
returns-in_err-wall c = rw c.from_residual.ensures (time_none c.args.text.now c.in_err-wall.ensures)

pub returns-in_err-number : goal.returns-in_err-number
returns-in_err-number c =
    rw c.from_residual-in_err-number.ensures
    (time_without_wall c.args.text.now c.in_ok-wall.wall.now c.in_ok-wall.logical.now
    c.in_ok-wall.ensures c.in_err-number.ensures)

pub returns-in_err-small_number : goal.returns-in_err-small_number
returns-in_err-small_number c =
    rw c.from_residual-in_err-small_number.ensures
    (time_without_logical c.args.text.now c.in_ok-wall.wall.now c.in_ok-wall.logical.now
    c.in_ok-wall.ensures c.in_err-small_number.ensures)

pub returns : goal.returns
returns c =
    rw c.new.ensures
    (time_made c.args.text.now c.in_ok-wall.wall.now c.in_ok-wall.logical.now c.in_ok-number.field-0
    c.in_ok-small_number.field-0
    c.in_ok-wall.ensures c.in_ok-number.ensures c.in_ok-small_number.ensures)
