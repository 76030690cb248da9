-- Proves the loop invariants of `other_line`. The first line that is not that of its call, or has
-- none.
use Rattle.std.proofs.Common.{◌≡◌, ◌≤◌, length, drop}
use Rattle.tsc_check.specs.Verdict.{calls_of, calls_of_lists}
use Rattle.tsc_check.specs.CheckParts.{first_other}
use Rattle.tsc_check.proofs.calls.other_line.Given as goal

-- the first other line is the first from here on
abbrev pub invariant-loop-thread : goal.invariant-loop-thread
invariant-loop-thread l =
    record {
      within : l.from ≤ length l.lines;
      first : first_other 0 (calls_of l.trace) l.lines ≡ first_other l.from
          (calls_of_lists l.thread (drop l.thread l.trace.threads)) (drop l.from l.lines);
    }
