-- Copies of the marks so far are these marks.
use Rattle.std.proofs.Common.{◌≡◌, ◌∙◌, ◌≤◌, ◌++◌, ◌∷◌, [], sym, ap, subst, List, take, arith}
use Rattle.std.proofs.lemmas.List.{take_more, take_all}
use Rattle.tsc_page_model.specs.Page.{Mark, marked_keys, cost_distinct}
use Rattle.tsc_page_model.specs.PageView.{view_of}
use Rattle.tsc_page_model.proofs.plain_page.PlainPageIntervalPage.try_copy.Goals as goal

pub loop-mark-preserved : goal.loop-mark-preserved
loop-mark-preserved c =
    let marks : List Mark = c.deref-mark-items.result.now in
    let i = c.loop-mark.mark-index in
    c.in_ok-push.ensures.items ∙ ap (λ (ms : List Mark). ms ++ c.in_ok-try_copy.field-0 ∷ [])
    c.loop-mark.invariant
    ∙ ap (λ (m : Mark). take i marks ++ m ∷ []) (c.in_ok-try_copy.ensures ∙ c.mark-item.is) ∙
    sym (take_more marks i c.mark-item.result c.loop-mark-test.true)

pub invariant_of-result : goal.invariant_of-result
invariant_of-result c =
    let all : c.loop-mark.marks.items ≡ c.self.inside.marks.items = c.loop-mark.invariant ∙
    take_all c.loop-mark.mark-index c.deref-mark-items.result.now
    (omega (arith, c.loop-mark-test.false)) ∙ c.deref-mark-items.ensures.value in (
      subst (λ (ms : List Mark). cost_distinct (marked_keys ms) ≤ c.self.inside.size) (sym all)
          c.self.invariant.0,
      c.self.invariant.1,
      c.self.invariant.2,
    )

pub returns-clause-value : goal.returns-clause-value
returns-clause-value c =
    let all : c.loop-mark.marks.items ≡ c.self.inside.marks.items = c.loop-mark.invariant ∙
    take_all c.loop-mark.mark-index c.deref-mark-items.result.now
    (omega (arith, c.loop-mark-test.false)) ∙ c.deref-mark-items.ensures.value in
    ap (λ (ms : List Mark). view_of
    (record { size = c.self.inside.size; base = c.self.inside.base; marks = ms })) all ∙
    c.self.view_is
