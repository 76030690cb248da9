-- Proves the loop invariants of `other_in_list`. The first line, from this number on, that is not
-- that of its call of a list.
use Rattle.std.proofs.Common.{◌≡◌, ◌≤◌, ◌+◌, ◌++◌, length, drop, List}
use Rattle.tsc_check.specs.Verdict.{PlacedCall, calls_of_list}
use Rattle.tsc_check.specs.CheckParts.{first_other}
use Rattle.tsc_check.proofs.calls.other_in_list.Given as goal

-- the first other line is the first from here on
abbrev pub invariant-loop-index : goal.invariant-loop-index
invariant-loop-index l =
    record {
      at : l.i ≡ l.from + l.index;
      within : l.i ≤ length l.lines;
      first : (rest : List PlacedCall) →
          first_other l.from (calls_of_list l.thread 0 l.calls ++ rest) (drop l.from l.lines)
          ≡ first_other l.i (calls_of_list l.thread l.index (drop l.index l.calls) ++ rest)
          (drop l.i l.lines);
    }
