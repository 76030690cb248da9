-- Proves the contract of `time`. A time.
use Rattle.tsc_trace_format.specs.TraceText.{time_of}
use Rattle.tsc_trace_fast.proofs.Values.{time_reads, time_is, got_as}
use Rattle.tsc_trace_fast.proofs.quick.token.time.Goals as goal

pub returns : goal.returns
returns c =
    let reads = time_reads c.args.reader.now _ _ c.unsigned-2.new.reader c.take_end_array.new.self
    c.in_ok-wall.wall c.in_ok-logical.logical c.in_ok-open_array.ensures c.in_ok-wall.ensures
    c.in_ok-logical.ensures c.if-not-take_end_array.ensures in
    got_as 1 time_of c.args.reader.now c.take_end_array.new.self _ c.timestamp.result _ reads
    (time_is c.in_ok-wall.wall c.in_ok-logical.logical) c.timestamp.ensures
