-- Proves the contract of `loose_line`. The line whose text, or a looser spelling of it, these bytes
-- are.
use Rattle.std.specs.Str.{IsValidUpTo, valid_up_to}
use Rattle.tsc_trace.proofs.FieldReading.{no_text}
use Rattle.tsc_trace.proofs.log_reader.loose_line.Goals as goal

pub returns-in_err-ok : goal.returns-in_err-ok
returns-in_err-ok c =
    rw c.from_residual.ensures
    (no_text c.args.text.now c.from_utf8.result (λ e. IsValidUpTo c.args.text.now (valid_up_to e))
    c.from_utf8.ensures.cases c.in_err-ok.ensures.value)
