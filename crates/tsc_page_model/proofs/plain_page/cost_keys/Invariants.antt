-- Proves the loop invariants of `cost_keys`.
use Rattle.std.proofs.Common.{◌≡◌, ◌+◌, length}
use Rattle.tsc_page_model.specs.Page.{marked_keys, cost_distinct}
use Rattle.tsc_page_model.proofs.plain_page.cost_keys.Given as goal

-- what was summed up, with what the rest costs, is what all cost
abbrev pub invariant-loop-mark : goal.invariant-loop-mark
invariant-loop-mark l = l.cost + cost_distinct (marked_keys l.rest) ≡
    cost_distinct (marked_keys l.fn.marks)

abbrev pub decreases-loop-mark : goal.decreases-loop-mark
decreases-loop-mark l = length l.rest
