-- Proves the loop invariants of `count_all_adds`. How many Adds there are in some lists.
use Rattle.std.proofs.Common.{◌≡◌, ◌+◌, ◌≤◌, drop, map, length}
use Rattle.std.specs.List.{sum_by}
use Rattle.tsc_check.specs.TrueLog.{adds_of_lists}
use Rattle.tsc_run.proofs.trace_runs.count_all_adds.Given as goal

-- the Adds so far, and those that are left
abbrev pub invariant-loop-calls : goal.invariant-loop-calls
invariant-loop-calls l =
    (l.adds + adds_of_lists (map (λ calls. calls.items) (drop l.calls-index l.lists)) ≡
    adds_of_lists (map (λ calls. calls.items) l.lists))
    × (l.adds + sum_by length (map (λ calls. calls.items) (drop l.calls-index l.lists)) ≤ sum_by
    length (map (λ calls. calls.items) l.lists))
