-- What a cache or a seat answered, in what a call wrote of it.
use Rattle.std.proofs.Common.{◌≡◌, subst, List, Some, true}
use Rattle.tsc_time.specs.Time.{Time}
use Rattle.tsc_time.specs.ValueView.{ValueView}
use Rattle.tsc_span.specs.Span.{SpanView}
use Rattle.tsc_page_model.specs.Page.{Mark}
use Rattle.tsc_cache.specs.declared.added.Added.{Added}
use Rattle.tsc_cache.specs.ConfigView.{fits}
use Rattle.tsc_cache.specs.CacheView.{CacheView, Adds}
use Rattle.tsc_cache.specs.Batch.{AddsAll, all_fit}
use Rattle.tsc_cache.proofs.AddsSeen.{adds_are_steps}
use Rattle.tsc_shared.specs.declared.answers.Answer.{Answer}
use Rattle.tsc_shared.specs.Seats.{SeatView}
use Rattle.tsc_shared.specs.Answers.{AnswersLookup, IsAbove, ReportsNoPart}
use Rattle.tsc_ffi_store.specs.Decode.{AskedSpan, AskedAdd, AskedBatch, lookup_span, NamesAdd}
use Rattle.tsc_ffi_store.specs.Marks.{NamesAddAll}
use Rattle.tsc_ffi_store.specs.CacheCalls.{AddsIn, AddsAllIn}
use Rattle.tsc_ffi_store.specs.SeatCalls.{SeatLooks}

pub adds_in : (cache after : CacheView) (asked : AskedAdd) (span : SpanView) (value : ValueView)
    (now : Time) (added reported : Added) → NamesAdd asked span → fits cache.config span ≡ true
    → value ≡ asked.value → now ≡ asked.moment → added ≡ reported
    → Adds cache after (record { span = span; value = value }) now added
    → AddsIn cache after asked reported
adds_in cache after asked span value now added reported names fit is moment reports adds =
    let m : Mark = record { span = span; value = asked.value } in
    let made : Adds cache after m asked.moment reported =
    subst (λ (a : Added). Adds cache after m asked.moment a) reports
    (subst (λ (t : Time). Adds cache after m t added) moment
    (subst (λ (v : ValueView). Adds cache after (record { span = span; value = v }) now added)
    is adds)) in
    record {
      span = span;
      names = names;
      fit = fit;
      adds = made;
      stands = adds_are_steps.stands cache after m asked.moment reported made;
      reports = adds_are_steps.answers cache after m asked.moment reported made;
    }

pub adds_all_in : (cache after : CacheView) (asked : AskedBatch) (marks : List Mark) (now : Time)
    (added reported : Added) → NamesAddAll asked marks → all_fit cache.config marks ≡ true
    → now ≡ asked.moment → added ≡ reported
    → AddsAll cache after marks now added
    → AddsAllIn cache after asked reported
adds_all_in cache after asked marks now added reported names fit moment reports adds =
    let all : AddsAll cache after marks asked.moment reported =
    subst (λ (a : Added). AddsAll cache after marks asked.moment a) reports
    (subst (λ (t : Time). AddsAll cache after marks t added) moment adds) in
    record {
      marks = marks;
      names = names;
      fit = fit;
      adds = all;
      stands = adds_are_steps.all_stand cache after marks asked.moment reported all;
      reports = adds_are_steps.all_answer cache after marks asked.moment reported all;
    }

pub seat_looks : (old new : SeatView) (asked : AskedSpan) (span : SpanView) (answer : Answer)
    (v : ValueView) → lookup_span asked ≡ Some span → answer.value ≡ v
    → AnswersLookup old new span answer → IsAbove new span answer.value →
    ReportsNoPart new span answer.value → SeatLooks old new asked answer.front v
seat_looks old new asked span answer v is reported looks above whole = record {
  span = span;
  asked_for = is;
  looks = subst (λ (w : ValueView). AnswersLookup old new span (record {
    value = w;
    front =
        answer.front;
  }))
      reported looks;
  above = subst (λ (w : ValueView). IsAbove new span w) reported above;
  whole = subst (λ (w : ValueView). ReportsNoPart new span w) reported whole;
}
