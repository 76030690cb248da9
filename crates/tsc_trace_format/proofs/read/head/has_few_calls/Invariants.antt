-- Proves the loop invariants of `has_few_calls`. Whether lists have no more calls than a trace may
-- have.
use Rattle.std.proofs.Common.{◌≡◌, drop, length, nat_le}
use Rattle.std.specs.List.{sum_by}
use Rattle.tsc_trace_format.specs.Limits.{most_calls}
use Rattle.tsc_trace_format.specs.Rows.{rows_view}
use Rattle.tsc_trace_format.proofs.read.head.has_few_calls.Given as goal

-- the lists that are left have few enough calls where all lists do
abbrev pub invariant-loop-list : goal.invariant-loop-list
invariant-loop-list l = nat_le (sum_by length (rows_view (drop l.list-index l.lists))) l.left ≡
    nat_le (sum_by length (rows_view l.lists)) most_calls
