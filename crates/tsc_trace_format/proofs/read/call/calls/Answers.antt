-- Proves the contract of `calls`. The calls of a list, of which the first has this number.
use Rattle.std.proofs.Common.{arith}
use Rattle.std.proofs.lemmas.Result.{err_from_is_err_and}
use Rattle.tsc_trace_format.specs.TraceText.{calls_of}
use Rattle.tsc_trace_format.proofs.Calls.{calls_go_on, calls_end, calls_are_done}
use Rattle.tsc_trace_format.proofs.read.call.calls.Goals as goal

pub returns-in_err-call_at : goal.returns-in_err-call_at
returns-in_err-call_at c =
    let p = err_from_is_err_and c.from_residual.result c.from_residual.ensures.1 in
    let l = c.loop-value in
    rw (p.1, p.2) (calls_end c.args.config.now c.in_err-call_at.field-0.0 l.calls.items
    c.args.values.now l.value-index l.number c.value-item.result
    (calls_of c.args.config.now c.args.first _) (omega arith) c.value-item.is
    c.in_err-call_at.ensures l.invariant.left)

pub returns : goal.returns
returns c = calls_are_done c.args.config.now c.loop-value.calls.items c.args.values.now
    c.loop-value.value-index c.loop-value.number _ (omega arith) c.loop-value.invariant.left

pub loop-value-preserved : goal.loop-value-preserved
loop-value-preserved c =
    let l = c.loop-value in
    record {
      counted = omega arith;
      left = rw c.in_ok-push.ensures.items
          (calls_go_on c.args.config.now l.calls.items c.args.values.now l.value-index l.number
          c.value-item.result c.in_ok-call_at.field-0 (calls_of c.args.config.now c.args.first _)
          (omega arith) c.value-item.is c.in_ok-call_at.ensures l.invariant.left);
    }
