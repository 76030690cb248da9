-- Proves the contract of `calls`. A list of calls.
use Rattle.std.proofs.Common.{◌≡◌, ◌∷◌, [], ◌++◌, Some, arith}
use Rattle.json.specs.Json.{after_end_array}
use Rattle.tsc_trace_format.specs.TraceText.{call_of}
use Rattle.tsc_trace_fast.proofs.Each.{each_begin, each_go_on, each_over}
use Rattle.tsc_trace_fast.proofs.quick.head.calls.Goals as goal

pub calls-init : goal.calls-init
calls-init c = each_begin 4 call_of _ _ c.new-calls.ensures.items

pub calls-preserved : goal.calls-preserved
calls-preserved c =
    let same : c.take_end_array.new.self ≡ c.calls.reader = grind arith in
    let pushed : c.push.new.self.items ≡ c.calls.calls.items ++ c.in_ok-call.call ∷ [] =
    grind arith in
    each_go_on 4 call_of c.open_array.new.reader c.calls.reader c.call.new.reader
    c.calls.calls.items c.push.new.self.items c.in_ok-call.call c.calls.invariant
    (rw same at c.in_ok-call.ensures) pushed

pub returns : goal.returns
returns c =
    let over : after_end_array c.calls.reader ≡ Some c.take_end_array.new.self = grind arith in
    each_over 4 call_of c.args.reader.now c.open_array.new.reader c.calls.reader
    c.take_end_array.new.self c.calls.calls.items c.in_ok-open_array.ensures
    c.calls.invariant over
