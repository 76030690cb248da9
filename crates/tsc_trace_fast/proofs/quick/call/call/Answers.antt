-- Proves the contract of `call`. A call.
use Rattle.tsc_trace_fast.proofs.CallMembers.{no_call_yet, call_got}
use Rattle.tsc_trace_fast.proofs.quick.call.call.Goals as goal

pub read-requires : goal.read-requires
read-requires c = record { none = no_call_yet }

pub returns : goal.returns
returns c =
    let read = c.in_ok-read.ensures in
    call_got c.args.reader.now c.open_object.new.reader read.1.last c.read.new.reader read.0
    c.read.new.self c.call.result c.in_ok-open_object.ensures read.1.read read.2 read.1.over
    c.call.ensures
