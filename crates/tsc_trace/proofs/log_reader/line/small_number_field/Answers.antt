-- Proves the contract of `small_number_field`. A number of 32 bits, and what follows the space
-- behind it.
use Rattle.std.proofs.Common.{◌<◌, ◌^◌, Some, None, decimal, arith}
use Rattle.tsc_trace.specs.LogText.{space}
use Rattle.tsc_trace.proofs.LineTexts.{decimal_without}
use Rattle.tsc_trace.proofs.FieldReading.{field_none, field_some}
use Rattle.tsc_trace.proofs.log_reader.line.small_number_field.Goals as goal

pub returns-in_err-field : goal.returns-in_err-field
returns-in_err-field c = rw c.from_residual.ensures
    (field_none (λ n. n < 2 ^ 32) decimal c.args.text.now c.in_err-field.ensures)

pub returns-in_err-small_number : goal.returns-in_err-small_number
returns-in_err-small_number c =
    rw c.from_residual-in_err-small_number.ensures
    (field_some (λ n. n < 2 ^ 32) decimal c.args.text.now c.in_ok-field.field.now
    c.in_ok-field.rest.now None
    (λ x small. decimal_without space x (omega arith) (omega arith)) c.in_ok-field.ensures
    c.in_err-small_number.ensures)

pub returns : goal.returns
returns c =
    field_some (λ n. n < 2 ^ 32) decimal c.args.text.now c.in_ok-field.field.now
    c.in_ok-field.rest.now (Some c.in_ok-small_number.field-0)
    (λ x small. decimal_without space x (omega arith) (omega arith)) c.in_ok-field.ensures
    c.in_ok-small_number.ensures
