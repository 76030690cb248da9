-- Proves the contract of `Order::put_all`. Adds lines up to the first one whose place or front is
-- wrong, and gives its number, from 0.
use Rattle.std.proofs.Common.{sym, length}
use Rattle.tsc_check.specs.Verdict.{is_wrong_place}
use Rattle.tsc_check.proofs.Misplaced.{found_here}
use Rattle.tsc_check.proofs.order.Order.put_all.Goals as goal

pub returns-then-misplaces-clause-wrong : goal.returns-then-misplaces-clause-wrong
returns-then-misplaces-clause-wrong c =
    found_here (is_wrong_place c.args.lines.now) (length c.args.lines.now) c.loop-i.i
    c.loop-i.invariant.none c.loop-i-test.true (sym c.if-misplaces.ensures)
