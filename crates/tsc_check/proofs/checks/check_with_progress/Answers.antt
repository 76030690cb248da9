-- The first test that a line fails decides.
use Rattle.std.proofs.Common.{◌≡◌, ◌∙◌, sym, ap, subst, ◌+◌, length, None, arith}
use Rattle.tsc_trace_format.specs.Traces.{Trace}
use Rattle.tsc_check.specs.declared.verdict.Verdict.TheVariants.{Right, WrongCall, WrongPlace, WrongAnswer}
use Rattle.tsc_check.specs.Verdict.{is_wrong_place, named_or, least, verdict_of}
use Rattle.tsc_check.proofs.Verdicts.{wrong_call, wrong_place, by_answers, few_answers, least_below, none_is, in_lists_bound}
use Rattle.tsc_check.proofs.checks.check_with_progress.Goals as goal

pub returns-in-Some : goal.returns-in-Some
returns-in-Some g c =
    subst (λ ls. WrongCall (c.in-Some.i + 1) ≡ verdict_of c.args.trace.now ls) c.slice-lines.ensures
    (wrong_call c.args.trace.now c.slice-lines.result.now c.in-Some.i c.in-Some.ensures.first)

pub new-requires-clause-lists : goal.new-requires-clause-lists
new-requires-clause-lists g c = λ j line at.
    omega (
      arith,
      c.len.ensures.value,
      ap (λ (t : Trace). length t.threads) c.trace.view_is,
      in_lists_bound c.args.trace.now c.slice-lines.result.now (sym c.in_default.ensures.first) j
          line at,
    )

pub overflow_add-result-in-Some-2 : goal.overflow_add-result-in-Some-2
overflow_add-result-in-Some-2 g c =
    let lines = c.slice-lines.result.now in
    omega (
      arith,
      c.in_default.ensures.few,
      least_below (is_wrong_place lines) (length lines) c.in-Some-2.i
          (sym (sym c.in-Some-2.is ∙ c.in_ok-i.ensures.wrong)),
    )

pub returns-in-Some-2 : goal.returns-in-Some-2
returns-in-Some-2 g c =
    let lines = c.slice-lines.result.now in
    subst (λ ls. WrongPlace (c.in-Some-2.i + 1) ≡ verdict_of c.args.trace.now ls)
    c.slice-lines.ensures
    (wrong_place c.args.trace.now lines c.in-Some-2.i c.in_default.ensures.first
    (sym c.in-Some-2.is ∙ c.in_ok-i.ensures.wrong))

pub verdict_on_answers-requires : goal.verdict_on_answers-requires
verdict_on_answers-requires g c =
    let lines = c.slice-lines.result.now in
    few_answers c.args.trace.now lines c.in_ok-least_untrue.field-0 c.in_default.ensures.few
    c.in_ok-least_untrue.ensures

pub returns : goal.returns
returns g c =
    let lines = c.slice-lines.result.now in
    let places : None ≡ least (is_wrong_place lines) (length lines) =
    sym (none_is c.in_ok-i.field-0 c.in_default-2.not-Some) ∙ c.in_ok-i.ensures.wrong in
    c.verdict_on_answers.ensures
    ∙ subst (λ ls. named_or WrongAnswer c.in_ok-least_untrue.field-0 Right ≡
    verdict_of c.args.trace.now ls) c.slice-lines.ensures
    (by_answers c.args.trace.now lines c.in_ok-least_untrue.field-0 c.in_default.ensures.first
    places c.in_ok-least_untrue.ensures)
