-- Proves the contract of `bit_field`. A bit, and what follows the space behind it.
use Rattle.std.proofs.Common.{Some, None}
use Rattle.tsc_trace.specs.LogText.{bit_text}
use Rattle.tsc_trace.specs.ReadingBack.{IsAnyBit}
use Rattle.tsc_trace.proofs.LineTexts.{bit_without_space}
use Rattle.tsc_trace.proofs.FieldReading.{field_none, field_some}
use Rattle.tsc_trace.proofs.log_reader.line.bit_field.Goals as goal

pub returns-in_err-field : goal.returns-in_err-field
returns-in_err-field c = rw c.from_residual.ensures
    (field_none IsAnyBit bit_text c.args.text.now c.in_err-field.ensures)

pub returns-in_err-bit : goal.returns-in_err-bit
returns-in_err-bit c =
    rw c.from_residual-in_err-bit.ensures
    (field_some IsAnyBit bit_text c.args.text.now c.in_ok-field.field.now
    c.in_ok-field.rest.now None
    (λ b any. bit_without_space b) c.in_ok-field.ensures c.in_err-bit.ensures)

pub returns : goal.returns
returns c =
    field_some IsAnyBit bit_text c.args.text.now c.in_ok-field.field.now c.in_ok-field.rest.now
    (Some c.in_ok-bit.field-0)
    (λ b any. bit_without_space b) c.in_ok-field.ensures c.in_ok-bit.ensures
