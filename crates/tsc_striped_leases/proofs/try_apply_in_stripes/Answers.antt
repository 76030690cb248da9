-- Proves the contract of `try_apply_in_stripes`. One entry of all that a summary tells.
use Rattle.std.proofs.Common.{◌≡◌, List, subst, rules}
use Rattle.std.specs.Prelude.{Some}
use Rattle.tsc_page_model.specs.Page.{Mark}
use Rattle.tsc_striped.specs.Answers.{AnswersTriedAdd}
use Rattle.timestamp_cache.specs.HandOver.{marks_reported}
use Rattle.tsc_striped_leases.proofs.Leases.{takes_over_once_tried}
use Rattle.tsc_striped_leases.proofs.try_apply_in_stripes.Goals as goal

pub returns-clause-takes_over : goal.returns-clause-takes_over
returns-clause-takes_over c =
    let reported = c.args.summary.now in
    let same : c.deref.result.now ≡ marks_reported reported = search rules in
    takes_over_once_tried c.args.seat.now c.try_add_all.new.seat reported c.args.now
    (Some c.args.tries) c.try_add_all.result
    (subst (λ (ms : List Mark). AnswersTriedAdd c.args.seat.now c.try_add_all.new.seat ms
    c.args.now (Some c.args.tries) c.try_add_all.result) same c.try_add_all.ensures)
