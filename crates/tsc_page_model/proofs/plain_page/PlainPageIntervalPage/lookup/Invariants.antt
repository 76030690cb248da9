-- Proves the loop invariants of `PlainPageIntervalPage::lookup`. The answer comes from a look at
-- all that was added.
use Rattle.std.proofs.Common.{◌≡◌, take}
use Rattle.tsc_time.specs.Time.{zero_time}
use Rattle.tsc_time.specs.Joint.{joint_above}
use Rattle.tsc_page_model.specs.Page.{values_on}
use Rattle.tsc_page_model.proofs.plain_page.PlainPageIntervalPage.lookup.Given as goal

-- the best so far is the joint value of what was met so far
abbrev pub invariant-loop-mark : goal.invariant-loop-mark
invariant-loop-mark l = l.best ≡ joint_above zero_time
    (values_on l.span (take l.mark-index l.mark-items))
