-- Proves the loop invariants of `PlainPageIntervalPage::top`. The answer comes from a look at all
-- that was added.
use Rattle.std.proofs.Common.{◌≡◌, take, map}
use Rattle.tsc_time.specs.Joint.{latest}
use Rattle.tsc_page_model.specs.Page.{Mark}
use Rattle.tsc_page_model.proofs.plain_page.PlainPageIntervalPage.top.Given as goal

-- the latest time so far
abbrev pub invariant-loop-mark : goal.invariant-loop-mark
invariant-loop-mark l = l.top ≡ latest l.initial.top
    (map (λ (m : Mark). m.value) (take l.mark-index l.mark-items))
