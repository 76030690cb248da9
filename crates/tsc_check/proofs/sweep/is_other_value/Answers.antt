-- The value that is told is held against that of the state.
use Rattle.std.proofs.Common.{◌≡◌, ◌∙◌, ap, not}
use Rattle.tsc_time.specs.ValueView.{ValueView}
use Rattle.tsc_cache.specs.State.{look}
use Rattle.tsc_cache.specs.History.{state_of}
use Rattle.tsc_check.specs.Verdict.{is_same_value}
use Rattle.tsc_check.proofs.sweep.is_other_value.Goals as goal

pub returns-in-Get-Get : goal.returns-in-Get-Get
returns-in-Get-Get c = λ config h s looks.
    let value = c.in-Get-Get.value in
    let is : c.get_max.result ≡ look (state_of config h) c.in-Get-Get.span =
    c.get_max.ensures.stands config (state_of config h) s in
    rw (c.in-Get-Get.is-0, c.in-Get-Get.is-1)
    (c.differ.ensures ∙ ap (λ (v : ValueView). not (is_same_value value v)) is)
