-- Proves the loop invariants of `PlainPageIntervalPage::try_copy`. The copy takes as much memory as
-- all that was added.
use Rattle.std.proofs.Common.{◌≡◌, take}
use Rattle.tsc_page_model.proofs.plain_page.PlainPageIntervalPage.try_copy.Given as goal

-- what was copied so far
abbrev pub invariant-loop-mark : goal.invariant-loop-mark
invariant-loop-mark l = l.marks.items ≡ take l.mark-index l.mark-items
