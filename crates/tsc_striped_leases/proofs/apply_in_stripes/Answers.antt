-- Proves the contract of `apply_in_stripes`. One entry of all that a summary tells.
use Rattle.std.proofs.Common.{◌≡◌, List, subst, rules}
use Rattle.tsc_page_model.specs.Page.{Mark}
use Rattle.tsc_striped.specs.Answers.{AnswersAdd}
use Rattle.timestamp_cache.specs.HandOver.{marks_reported}
use Rattle.tsc_striped_leases.proofs.Leases.{takes_over_once_added}
use Rattle.tsc_striped_leases.proofs.apply_in_stripes.Goals as goal

pub returns-clause-takes_over : goal.returns-clause-takes_over
returns-clause-takes_over g c =
    let reported = c.args.summary.now in
    let same : c.deref.result.now ≡ marks_reported reported = search rules in
    takes_over_once_added c.args.seat.now c.add_all.new.seat reported c.args.now c.add_all.result
    (subst (λ (ms : List Mark). AnswersAdd c.args.seat.now c.add_all.new.seat ms c.args.now
    c.add_all.result) same c.add_all.ensures)
