-- Proves the contract of `threads`. The calls of lists, numbered from 1 on.
use Rattle.std.proofs.Common.{arith, map}
use Rattle.std.proofs.lemmas.List.{map-append, length-map}
use Rattle.std.proofs.lemmas.Result.{err_from_is_err_and}
use Rattle.serde_json.specs.View.{view}
use Rattle.tsc_trace_format.specs.Rows.{rows_view}
use Rattle.tsc_trace_format.specs.TraceText.{threads_of}
use Rattle.tsc_trace_format.proofs.Calls.{threads_go_on, threads_end, threads_are_done, sum_here}
use Rattle.tsc_trace_format.proofs.read.head.threads.Goals as goal

pub returns-in_err-calls : goal.returns-in_err-calls
returns-in_err-calls c =
    let p = err_from_is_err_and c.from_residual.result c.from_residual.ensures.1 in
    let l = c.loop-list in
    rw (p.1, p.2) (threads_end c.args.config.now c.in_err-calls.field-0.0
    (map (λ calls. calls.items) l.threads.items) c.args.lists.now l.list-index l.number
    c.list-item.result (threads_of c.args.config.now 1 (rows_view c.args.lists.now))
    (omega arith) c.list-item.is c.in_err-calls.ensures l.invariant.left)

pub returns : goal.returns
returns c = threads_are_done c.args.config.now
    (map (λ calls. calls.items) c.loop-list.threads.items) c.args.lists.now c.loop-list.list-index
    c.loop-list.number _ (omega arith) c.loop-list.invariant.left

pub loop-list-preserved : goal.loop-list-preserved
loop-list-preserved c =
    let l = c.loop-list in
    record {
      small = omega (
        arith,
        sum_here c.args.lists.now l.list-index c.list-item.result (omega arith)
            c.list-item.is,
        length-map c.list-item.result.now view,
      );
      left = rw (c.in_ok-push.ensures.items, map-append)
          (threads_go_on c.args.config.now (map (λ calls. calls.items) l.threads.items)
          c.args.lists.now l.list-index l.number c.list-item.result c.in_ok-calls.field-0.items
          (threads_of c.args.config.now 1 (rows_view c.args.lists.now)) (omega arith) c.list-item.is
          c.in_ok-calls.ensures l.invariant.left);
    }
