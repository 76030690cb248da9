-- A verdict was written once, after the trace was read and then the log.
use Rattle.std.proofs.Common.{rules}
use Rattle.tsc_check.proofs.stream_checks.check_stream.Goals as goal

pub returns-clause-ok : goal.returns-clause-ok
returns-clause-ok g c = search rules

pub returns-in_err-lines-clause-err : goal.returns-in_err-lines-clause-err
returns-in_err-lines-clause-err g c = search rules

pub returns-in_err-read-clause-err : goal.returns-in_err-read-clause-err
returns-in_err-read-clause-err g c = search rules
