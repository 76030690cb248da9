-- Proves the loop invariants of `count_adds`. How many Adds there are in a list.
use Rattle.std.proofs.Common.{◌≡◌, ◌≤◌, take}
use Rattle.tsc_check.specs.TrueLog.{adds_of_list}
use Rattle.tsc_run.proofs.trace_runs.count_adds.Given as goal

-- the Adds of the calls so far
abbrev pub invariant-loop-call : goal.invariant-loop-call
invariant-loop-call l = (l.adds ≡ adds_of_list (take l.call-index l.calls)) ×
    (l.adds ≤ l.call-index)
