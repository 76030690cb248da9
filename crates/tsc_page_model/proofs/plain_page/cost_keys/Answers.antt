-- Each key is paid at the last mark that has it.
use Rattle.std.proofs.Common.{◌∙◌, ap, List, arith}
use Rattle.std.specs.Prelude.{Option, option_map}
use Rattle.tsc_span.specs.Span.{KeyBytes, end_keys}
use Rattle.tsc_page_model.specs.Page.{Mark, marked_keys, cost_distinct}
use Rattle.tsc_page_model.proofs.PlainMarks.{next_costs}
use Rattle.tsc_page_model.proofs.plain_page.cost_keys.Goals as goal

pub overflow_add-cost-in-Some : goal.overflow_add-cost-in-Some
overflow_add-cost-in-Some c =
    let first : Option KeyBytes = option_map (λ k. k.now) c.end_keys.result.0 in
    let second : Option KeyBytes = option_map (λ k. k.now) c.end_keys.result.1 in
    let later_marks : List Mark = c.in-Some.later.now in
    let paid = next_costs c.loop-mark.cost (cost_distinct (marked_keys c.args.marks.now))
    c.loop-mark.rest.now later_marks c.in-Some.mark.now first second c.in-Some.ensures.cases.0
    (c.end_keys.ensures.keys ∙ ap (λ (m : Mark). end_keys m.span) c.mark.view_is)
    c.loop-mark.invariant in
    omega (arith, paid, c.new_cost.ensures.value, c.new_cost-in-Some.ensures.value, c.requires)

pub loop-mark-preserved : goal.loop-mark-preserved
loop-mark-preserved c =
    let first : Option KeyBytes = option_map (λ k. k.now) c.end_keys.result.0 in
    let second : Option KeyBytes = option_map (λ k. k.now) c.end_keys.result.1 in
    let later_marks : List Mark = c.in-Some.later.now in
    let paid = next_costs c.loop-mark.cost (cost_distinct (marked_keys c.args.marks.now))
    c.loop-mark.rest.now later_marks c.in-Some.mark.now first second c.in-Some.ensures.cases.0
    (c.end_keys.ensures.keys ∙ ap (λ (m : Mark). end_keys m.span) c.mark.view_is)
    c.loop-mark.invariant in
    omega (arith, paid, c.new_cost.ensures.value, c.new_cost-in-Some.ensures.value)
