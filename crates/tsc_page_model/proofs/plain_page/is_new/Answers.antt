-- A key is new where no mark has it as an end key.
use Rattle.std.proofs.Common.{◌∙◌, sym, ap, List}
use Rattle.std.specs.Prelude.{option_map, not}
use Rattle.tsc_span.specs.Span.{end_keys}
use Rattle.tsc_page_model.specs.Page.{Mark, marked_keys}
use Rattle.tsc_page_model.specs.PageView.{is_in, is_new_among}
use Rattle.tsc_page_model.proofs.PlainMarks.{still_none, one_has}
use Rattle.tsc_page_model.proofs.plain_page.is_new.Goals as goal

pub returns-then-is_end : goal.returns-then-is_end
returns-then-is_end c =
    let marks : List Mark = c.args.marks.now in
    let at = ap (λ (m : Mark). m.span) (c.mark.view_is ∙ c.mark-item.is) in
    let has = ap (λ s. is_in c.in-Some.key.now (end_keys s)) (sym at) ∙ sym c.is_end.ensures ∙
    c.if-is_end.true in
    let there = one_has c.in-Some.key.now marks c.loop-mark.mark-index c.mark-item.result
    c.loop-mark-test.true has in
    sym (ap not there) ∙ ap (λ o. is_new_among (marked_keys marks) (option_map (λ k. k.now) o))
    (sym c.in-Some.is)

pub loop-mark-preserved : goal.loop-mark-preserved
loop-mark-preserved c =
    let marks : List Mark = c.args.marks.now in
    let at = ap (λ (m : Mark). m.span) (c.mark.view_is ∙ c.mark-item.is) in
    let none = ap (λ s. is_in c.in-Some.key.now (end_keys s)) (sym at) ∙ sym c.is_end.ensures ∙
    c.if-is_end.false in
    still_none c.in-Some.key.now marks c.loop-mark.mark-index c.mark-item.result
    c.loop-mark-test.true c.loop-mark.invariant none
