-- Proves the loop invariants of `Order::put_all`. Adds lines up to the first one whose place or
-- front is wrong, and gives its number, from 0.
use Rattle.std.proofs.Common.{◌≡◌, None}
use Rattle.tsc_check.specs.Verdict.{is_wrong_place, least}
use Rattle.tsc_check.specs.CheckParts.{HasPlaced}
use Rattle.tsc_check.proofs.order.Order.put_all.Given as goal

abbrev pub invariant-loop-i : goal.invariant-loop-i
invariant-loop-i l = record {
  placed : HasPlaced l.self l.lines l.i;
  none : least (is_wrong_place l.lines) l.i ≡ None;
}
