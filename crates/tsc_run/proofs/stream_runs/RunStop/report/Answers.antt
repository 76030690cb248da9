-- Proves the contract of `RunStop::report`. Writes the text of why the run ended.
use Rattle.tsc_run.proofs.stream_runs.RunStop.report.Goals as goal

pub returns-in-HistoryFull-clause-ok : goal.returns-in-HistoryFull-clause-ok
returns-in-HistoryFull-clause-ok g c =
    rw c.in-HistoryFull.is c.write_output-in-HistoryFull.ensures.ok

pub returns-in-HistoryFull-clause-err : goal.returns-in-HistoryFull-clause-err
returns-in-HistoryFull-clause-err g c =
    rw c.in-HistoryFull.is c.write_output-in-HistoryFull.ensures.err
