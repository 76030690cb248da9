-- Proves the loop invariants of `count_keys`. How many different end keys a list has.
use Rattle.std.proofs.Common.{◌≡◌, ◌+◌, length}
use Rattle.tsc_page_model.specs.Page.{marked_keys, count_distinct}
use Rattle.tsc_page_model.proofs.plain_page.count_keys.Given as goal

-- what is counted, with what the rest has, is what all have
abbrev pub invariant-loop-mark : goal.invariant-loop-mark
invariant-loop-mark l = l.count + count_distinct (marked_keys l.rest) ≡
    count_distinct (marked_keys l.fn.marks)

abbrev pub decreases-loop-mark : goal.decreases-loop-mark
decreases-loop-mark l = length l.rest
