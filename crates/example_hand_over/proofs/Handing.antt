-- What was read under one lease stays in what is answered under the next.
use Rattle.std.proofs.Common.{◌≡◌, sym, subst, [], ◌∷◌, inl, inr, arith}
use Rattle.std.specs.Prelude.{Option, Some, None, IfSome}
use Rattle.std.proofs.Math.Logic.{∥∥₁_elim}
use Rattle.std.proofs.lemmas.List.Elements.{All-nil, All-push, Contains-push}
use Rattle.tsc_time.proofs.RatchetOrder.{IsAtMost-transitive}
use Rattle.tsc_cache.specs.State.{CacheState, opening, step, step_all, look}
use Rattle.tsc_cache.proofs.FloorJoints.{above_each}
use Rattle.tsc_cache.proofs.Histories.{state_from-append, kept_up, clear_below}
use Rattle.tsc_cache.proofs.StatesSeen.{answers_look}
use Rattle.timestamp_cache.specs.Words.{Time, Owner, ValueView, IsAtMost, SpanView, ConfigView, state_of, entry_of_mark, CacheView, RepresentsState, cache_answer}
use Rattle.timestamp_cache.specs.Clear.{IsClearOf, IsClearOfAnswers}
use Rattle.timestamp_cache.specs.Earliest.{ReportsEarliest}
use Rattle.timestamp_cache.specs.HandOver.{Summary, summary_answer, IsWithin, ReportsOf, marks_reported, TakesOver}
use Rattle.timestamp_cache.proofs.Deciding.{clear_or_not}
use Rattle.example_hand_over.specs.FormerReads.{AnswersOneMore, ReportsOfCache, AnswersNoLess, IsClearOfFormerReads}

-- what an Add of a read makes of each state it makes of each history
pub one_more : (old new : CacheView) (span : SpanView) (read : ValueView) (now : Time)
    → ((config : ConfigView) (s : CacheState) → RepresentsState old config s →
    RepresentsState new config
    (step config s (record { span = span; value = read }) now).state)
    → AnswersOneMore old new span read now
one_more old new span read now adds config h seat number has =
    subst (RepresentsState new config)
    (sym (state_from-append config (opening config) h
    (entry_of_mark seat number (record { span = span; value = read }) now ∷ [])))
    (adds config (state_of config h) has)

-- what a state answers is at most what a summary of it tells
reported_above : (s : CacheState) (reported : Summary) (inner : SpanView) → ReportsOf s reported →
    IsWithin inner reported.span → IsAtMost (look s inner) (summary_answer reported inner)
reported_above s reported inner reports w =
    subst (IsAtMost (look s inner)) (sym (reports inner w))
    (above_each reported.floor (look s inner ∷ []) (look s inner) (Contains-push [] (look s inner)))

-- So whoever takes the summary over with a new cache answers no less.
pub no_less : (former old new : CacheView) (own : ConfigView) (reported : Summary)
    (range : SpanView) (now : Time) → RepresentsState old own (opening own)
    → ((config : ConfigView) (s : CacheState) → RepresentsState old config s →
    RepresentsState new config (step_all config s (marks_reported reported) now).state)
    → ((config : ConfigView) (s : CacheState) → RepresentsState old config s →
    TakesOver s (step_all config s (marks_reported reported) now).state reported)
    → reported.span ≡ range → ReportsOfCache former reported → AnswersNoLess former new range
no_less former old new own reported range now opened stands takes same reports config s inner has w
    =
    let within : IsWithin inner reported.span = subst (IsWithin inner) (sym same) w in
    let next : CacheState = (step_all own (opening own) (marks_reported reported) now).state in
    subst (IsAtMost (look s inner))
    (sym (answers_look new own next inner (stands own (opening own) opened)))
    (IsAtMost-transitive (look s inner) (summary_answer reported inner) (look next inner)
    (reported_above s reported inner (reports config s has) within)
    ((takes own (opening own) opened).learned inner within))

-- of one span, all answers are the one
only_answer : (cache : CacheView) (span : SpanView) (by : Owner) (at : Time) →
    IsClearOf (cache_answer cache span) by at → IsClearOfAnswers cache (span ∷ []) by at
only_answer cache span by at clear =
    let P : SpanView → Type 0 = λ (s : SpanView). IsClearOf (cache_answer cache s) by at in
    All-push P [] span (All-nil P) clear

-- so the earliest time for all is that for the one
pub earliest_of_one : (cache : CacheView) (span : SpanView) (by : Owner) (from : Time)
    (reported : Option Time) → ReportsEarliest (λ t. IsClearOfAnswers cache (span ∷ []) by t) from
    reported
    → ReportsEarliest (λ t. IsClearOf (cache_answer cache span) by t) from reported
earliest_of_one cache span by from None never =
    λ t range later clear. never t range later (only_answer cache span by t clear)
earliest_of_one cache span by from (Some at) is = record {
  in_range = is.in_range;
  from_on = is.from_on;
  holds = is.holds 0 span (omega arith);
  least = λ t range later clear. is.least t range later (only_answer cache span by t clear);
}

-- A write that is clear of what such a holder answers is clear of each read that the former one
-- answered.
pub clear_of_former : (former next : CacheView) (range span : SpanView) (by : Owner) (from : Time)
    (reported : Option Time) → ∥ AnswersNoLess former next range ∥₁
    → ReportsEarliest (λ t. IsClearOf (cache_answer next span) by t) from reported →
    IfSome reported (λ at. IsClearOfFormerReads former range span by at)
clear_of_former former next range span by from None less is = tt
clear_of_former former next range span by from (Some at) less is =
    λ within config h has e m c own over. elim (clear_or_not m.value by at) [
      | inl clear ↦ clear
      | inr not ↦ absurd (∥∥₁_elim less (λ x y. absurd x)
          (λ answers. not (clear_below m.value (cache_answer next span) by at
          (IsAtMost-transitive m.value (look (state_of config h) span) (cache_answer next span)
          (kept_up config h e m span c own over)
          (answers config (state_of config h) span has within)) is.holds)))
    ]
