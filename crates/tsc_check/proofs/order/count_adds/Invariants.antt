-- Proves the loop invariants of `count_adds`. How many lines are those of Adds.
use Rattle.std.proofs.Common.{◌≡◌, ◌≤◌, take}
use Rattle.tsc_check.specs.Verdict.{adds_in}
use Rattle.tsc_check.proofs.order.count_adds.Given as goal

abbrev pub invariant-loop-line : goal.invariant-loop-line
invariant-loop-line l = record {
  counted : l.count ≡ adds_in (take l.line-index l.lines);
  most : l.count ≤ l.line-index;
}
