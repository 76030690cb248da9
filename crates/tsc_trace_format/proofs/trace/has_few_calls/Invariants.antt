-- Proves the loop invariants of `has_few_calls`. Whether lists have no more calls than a trace may
-- have.
use Rattle.std.proofs.Common.{◌≡◌, drop, map, length, nat_le}
use Rattle.std.specs.List.{sum_by}
use Rattle.tsc_trace_format.specs.Limits.{most_calls}
use Rattle.tsc_trace_format.proofs.trace.has_few_calls.Given as goal

-- the lists that are left have few enough calls where all lists do
abbrev pub invariant-loop-list : goal.invariant-loop-list
invariant-loop-list l = nat_le (sum_by length
    (map (λ calls. calls.items) (drop l.list-index l.lists))) l.left ≡
    nat_le (sum_by length (map (λ calls. calls.items) l.lists)) most_calls
