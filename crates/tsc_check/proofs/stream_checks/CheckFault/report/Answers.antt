-- Proves the contract of `CheckFault::report`. Writes the text of the fault.
use Rattle.tsc_check.proofs.stream_checks.CheckFault.report.Goals as goal

pub returns-in-Text-clause-ok : goal.returns-in-Text-clause-ok
returns-in-Text-clause-ok g c = rw (
  c.in-Text.is,
  ← c.format-number.ensures.text,
  ← c.as_bytes.ensures.value,
) c.write_both.ensures.ok

pub returns-in-Text-clause-err : goal.returns-in-Text-clause-err
returns-in-Text-clause-err g c = rw (
  c.in-Text.is,
  ← c.format-number.ensures.text,
  ← c.as_bytes.ensures.value,
) c.write_both.ensures.err

pub returns-in-Length-clause-ok : goal.returns-in-Length-clause-ok
returns-in-Length-clause-ok g c = rw c.in-Length.is c.write_output.ensures.ok

pub returns-in-Length-clause-err : goal.returns-in-Length-clause-err
returns-in-Length-clause-err g c = rw c.in-Length.is c.write_output.ensures.err
