-- Proves the loop invariants of `lists`. Lists of calls, however many.
use Rattle.std.proofs.Common.{length, map}
use Rattle.tsc_trace_fast.specs.Kept.{call_list}
use Rattle.tsc_trace_fast.proofs.Each.{HasRead}
use Rattle.tsc_trace_fast.proofs.quick.head.lists.Given as goal

abbrev pub invariant-lists : goal.invariant-lists
invariant-lists l = HasRead 5 call_list l.initial.reader (map (λ calls. calls.items) l.lists.items)
    l.reader

abbrev pub decreases-lists : goal.decreases-lists
decreases-lists l = length l.reader
