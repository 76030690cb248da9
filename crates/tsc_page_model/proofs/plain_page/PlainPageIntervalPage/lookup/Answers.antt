-- The next mark comes last among those that were met; at the end these are all.
use Rattle.std.proofs.Common.{◌≡◌, ◌∙◌, sym, subst, ap, false, inl, inr, get_or, List, arith}
use Rattle.std.proofs.lemmas.List.{take_all}
use Rattle.tsc_time.specs.Time.{zero_time, is_before}
use Rattle.tsc_time.specs.ValueView.{ValueView}
use Rattle.tsc_time.specs.Joint.{joint_above}
use Rattle.tsc_page_model.specs.Page.{Mark, values_on}
use Rattle.tsc_page_model.specs.PageView.{PageView, answer}
use Rattle.tsc_page_model.proofs.Lookups.{met_one_more}
use Rattle.tsc_page_model.proofs.Tops.{plain_covers}
use Rattle.tsc_page_model.proofs.plain_page.PlainPageIntervalPage.lookup.Goals as goal
use Rattle.tsc_page_model.proofs.plain_page.PlainPageIntervalPage.lookup.Goals.{then-overlaps, else-overlaps}

pub loop-mark-preserved : goal.loop-mark-preserved
loop-mark-preserved c =
    let m : Mark = record { span = c.mark.inside.span; value = c.mark.inside.value } in
    let marks = c.deref-mark-items.result.now in
    let at : m ≡ get_or marks c.loop-mark.mark-index c.mark-item.result = c.mark.view_is ∙
    c.mark-item.is in
    let met = met_one_more zero_time c.args.span.now marks c.loop-mark.mark-index m
    c.mark-item.result c.loop-mark.best c.if-overlaps.best c.loop-mark-test.true at
    c.loop-mark.invariant in
    elim c.if-overlaps.branch [
      | then-overlaps w ↦ met (inl
          (sym c.overlaps.ensures ∙ w.if-overlaps.true, w.best-is ∙ w.ratchet-best.ensures.joint))
      | else-overlaps w ↦ met (inr (sym c.overlaps.ensures ∙ w.if-overlaps.false, w.best-is))
    ]

value : goal.returns-clause-value
value c =
    let met = λ (ms : List Mark). joint_above zero_time (values_on c.args.span.now ms) in
    let marks = c.deref-mark-items.result.now in
    c.loop-mark.invariant ∙ ap met
    (take_all c.loop-mark.mark-index marks (omega (arith, c.loop-mark-test.false)) ∙
    c.deref-mark-items.ensures.value) ∙
    ap (λ (v : PageView). answer v c.args.span.now) c.self.view_is

pub returns-clause-value : goal.returns-clause-value
returns-clause-value = value

pub returns-clause-below_top : goal.returns-clause-below_top
returns-clause-below_top c =
    let covers = plain_covers c.args.self.now
    (record {
      size = c.self.inside.size;
      base = c.self.inside.base;
      marks = c.self.inside.marks.items;
    }) c.self.view_is in
    subst (λ (w : ValueView). is_before c.args.self.now.top w.time ≡ false) (sym (value c))
    (covers c.args.span.now)
