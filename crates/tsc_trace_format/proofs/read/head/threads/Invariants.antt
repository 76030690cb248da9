-- Proves the loop invariants of `threads`. The calls of lists, numbered from 1 on.
use Rattle.std.proofs.Common.{◌≡◌, ◌+◌, ◌≤◌, drop, length, map}
use Rattle.std.specs.List.{sum_by}
use Rattle.tsc_trace_format.specs.Limits.{most_calls}
use Rattle.tsc_trace_format.specs.Rows.{rows_view}
use Rattle.tsc_trace_format.specs.TraceText.{threads_of}
use Rattle.tsc_trace_format.proofs.Calls.{with_front}
use Rattle.tsc_trace_format.proofs.read.head.threads.Given as goal

-- what is read and what the rest is read as are what all lists are read as, and the numbers stay
-- small
abbrev pub invariant-loop-list : goal.invariant-loop-list
invariant-loop-list l =
    record {
      small : l.number + sum_by length (rows_view (drop l.list-index l.lists)) ≤ 1 + most_calls;
      left : with_front (map (λ calls. calls.items) l.threads.items)
          (threads_of l.config l.number (rows_view (drop l.list-index l.lists))) ≡
          threads_of l.config 1 (rows_view l.lists);
    }
