-- Proves the contract of `threads`. The lists of a trace.
use Rattle.std.proofs.Common.{map}
use Rattle.tsc_trace_fast.proofs.Each.{threads_got}
use Rattle.tsc_trace_fast.proofs.quick.head.threads.Goals as goal

pub returns : goal.returns
returns c = threads_got c.args.reader.now c.lists.new.reader
    (map (λ calls. calls.items) c.in_ok-lists.lists.items) c.new.result c.in_ok-lists.ensures
    c.new.ensures
