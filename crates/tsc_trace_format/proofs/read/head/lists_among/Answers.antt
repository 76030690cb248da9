-- Proves the contract of `lists_among`. Lists of which each has to be one.
use Rattle.std.proofs.Common.{arith, map}
use Rattle.std.proofs.lemmas.List.{map-append}
use Rattle.std.proofs.lemmas.Result.{err_from_is_err_and}
use Rattle.serde_json.specs.View.{view}
use Rattle.tsc_trace_format.specs.Rows.{rows_view}
use Rattle.tsc_trace_format.specs.TraceText.{lists_in}
use Rattle.tsc_trace_format.proofs.Calls.{lists_go_on, lists_end, lists_are_done}
use Rattle.tsc_trace_format.proofs.read.head.lists_among.Goals as goal

pub returns-in_err-array : goal.returns-in_err-array
returns-in_err-array c =
    let p = err_from_is_err_and c.from_residual.result c.from_residual.ensures.1 in
    let l = c.loop-value in
    rw (p.1, p.2) (lists_end c.in_err-array.field-0.0 (rows_view l.lists.items) c.args.values.now
    l.value-index c.value-item.result (lists_in (map view c.args.values.now)) (omega arith)
    c.value-item.is c.in_err-array.ensures l.invariant)

pub returns : goal.returns
returns c = lists_are_done (rows_view c.loop-value.lists.items) c.args.values.now
    c.loop-value.value-index _ (omega arith) c.loop-value.invariant

pub loop-value-preserved : goal.loop-value-preserved
loop-value-preserved c =
    let l = c.loop-value in
    rw (c.in_ok-push.ensures.items, map-append)
    (lists_go_on (rows_view l.lists.items) c.args.values.now l.value-index c.value-item.result
    (map view c.in_ok-array.field-0.now) (lists_in (map view c.args.values.now)) (omega arith)
    c.value-item.is c.in_ok-array.ensures l.invariant)
