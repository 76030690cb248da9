-- Each key is counted at the last mark that has it.
use Rattle.std.proofs.Common.{◌≡◌, ◌∙◌, ap, List, arith}
use Rattle.std.specs.Prelude.{Option, option_map}
use Rattle.tsc_span.specs.Span.{KeyBytes, end_keys}
use Rattle.tsc_page_model.specs.Page.{Mark, marked_keys, count_distinct}
use Rattle.tsc_page_model.specs.PageView.{is_new_among}
use Rattle.tsc_page_model.proofs.DistinctKeys.{count-costs}
use Rattle.tsc_page_model.proofs.Weights.{one_if}
use Rattle.tsc_page_model.proofs.Standing.{byte_is}
use Rattle.tsc_page_model.proofs.PlainMarks.{next_counted}
use Rattle.tsc_page_model.proofs.plain_page.count_keys.Goals as goal

pub overflow_add-count-in-Some : goal.overflow_add-count-in-Some
overflow_add-count-in-Some c =
    let first : Option KeyBytes = option_map (λ k. k.now) c.end_keys.result.0 in
    let second : Option KeyBytes = option_map (λ k. k.now) c.end_keys.result.1 in
    let later_marks : List Mark = c.in-Some.later.now in
    let one : c.from.result ≡ one_if (is_new_among (marked_keys later_marks) first) =
    c.from.ensures ∙ byte_is c.is_new.result ∙ ap one_if c.is_new.ensures in
    let two : c.from-in-Some.result ≡ one_if (is_new_among (marked_keys later_marks) second) =
    c.from-in-Some.ensures ∙ byte_is c.is_new-in-Some.result ∙
    ap one_if c.is_new-in-Some.ensures in
    let counted = next_counted c.loop-mark.count (count_distinct (marked_keys c.args.marks.now))
    c.loop-mark.rest.now later_marks c.in-Some.mark.now first second c.in-Some.ensures.cases.0
    (c.end_keys.ensures.keys ∙ ap (λ (m : Mark). end_keys m.span) c.mark.view_is)
    c.loop-mark.invariant in
    omega (arith, one, two, counted, c.requires, count-costs (marked_keys c.args.marks.now))
