-- Why a run ended is told.
use Rattle.std.proofs.Common.{◌≡◌, ◌∙◌, Err, sym, ap, rules}
use Rattle.tsc_run.specs.Ending.{stop_of_run}
use Rattle.tsc_run.proofs.Unstarted.{only_unstarted}
use Rattle.tsc_run.proofs.stream_runs.run_stream.Goals as goal

pub returns-in_err-log-clause-err : goal.returns-in_err-log-clause-err
returns-in_err-log-clause-err g c = search rules

pub returns-in_err-log-clause-no_thread : goal.returns-in_err-log-clause-no_thread
returns-in_err-log-clause-no_thread g c =
    let why = c.in_err-log.field-0.0 in
    let reported : c.run_trace.result ≡ Err why = search rules in
    let same : c.from_residual-in_err-log.result ≡ Err (stop_of_run why) = search rules in
    λ is. let stopped = sym same ∙
    is in c.run_trace.ensures.no_thread (reported ∙ ap Err (only_unstarted why cc))
