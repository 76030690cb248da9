-- Proves the contract of `trace`. The trace that a JSON value is.
use Rattle.std.proofs.Common.{◌≡◌, true, map}
use Rattle.tsc_trace_format.specs.Lists.{fits_trace}
use Rattle.tsc_trace_format.specs.Rows.{rows_view}
use Rattle.tsc_trace_format.proofs.Calls.{threads_fit}
use Rattle.tsc_trace_format.proofs.Fitting.{threads_hold}
use Rattle.tsc_trace_format.proofs.read.head.trace.Goals as goal

pub of-threads-requires : goal.of-threads-requires
of-threads-requires c =
    let fit : fits_trace (rows_view c.deref-2.result.now) ≡ true = cc in
    threads_fit c.in_ok-config.config 1 (rows_view c.deref-2.result.now)
    (map (λ calls. calls.items) c.in_ok-threads.field-0.items) c.in_ok-threads.ensures fit

pub invariant_of-result : goal.invariant_of-result
invariant_of-result c =
    rw c.of-threads.ensures (threads_hold c.in_ok-config.config 1 (rows_view c.deref-2.result.now)
    (map (λ calls. calls.items) c.in_ok-threads.field-0.items) c.in_ok-threads.ensures)
