-- Proves the contract of `said`. An answer.
use Rattle.tsc_trace.proofs.FieldReading.{said_needs_a_space, wrong_word}
use Rattle.tsc_trace.proofs.log_reader.line.said.Goals as goal

pub returns-in_err-word : goal.returns-in_err-word
returns-in_err-word c = rw c.from_residual.ensures
    (said_needs_a_space c.args.text.now c.in_err-word.ensures)

pub returns-in_default : goal.returns-in_default
returns-in_default c =
    wrong_word c.args.text.now c.in_ok-word.word.now c.in_ok-word.fields.now c.in_ok-word.ensures
    c.in_default.not-add c.in_default.not-batch c.in_default.not-get c.in_default.not-low
