-- What every Add answers: whether it was made, what it then makes of all that can be seen of a
-- cache, and why it was refused. Which state it leads to follows, by the law `adds_are_steps`.
use Rattle.std.specs.Prelude.{◌≡◌, ◌↔◌, List, true, false, Result, Ok, Err, IsOk, IfOk, IsErrOf, OnErr}
use Rattle.tsc_time.specs.Time.{Time}
use Rattle.tsc_time.specs.ValueView.{ValueView}
use Rattle.tsc_span.specs.Span.{SpanView}
use Rattle.tsc_page_model.specs.Page.{Mark}
use Rattle.tsc_cache.specs.declared.added.Added.{Added}
use Rattle.tsc_cache.specs.declared.fault.CacheFault.{CacheFault}
use Rattle.tsc_cache.specs.declared.fault.CacheFault.TheVariants.{TooLarge}
use Rattle.tsc_cache.specs.declared.fault.AddBetweenFault.{AddBetweenFault}
use Rattle.tsc_cache.specs.ConfigView.{fits}
use Rattle.tsc_cache.specs.State.{is_kept}
use Rattle.tsc_cache.specs.CacheView.{CacheView, Adds}
use Rattle.tsc_cache.specs.Batch.{all_fit, is_any_kept, AddsAll}
use Rattle.tsc_cache.specs.AddSpans.{of_cache_fault}

-- What an Add of a mark answers: what it makes of the cache, that it is too large just where its
-- span doesn't fit, that nothing changes where it is refused, and that one which is not kept takes
-- no memory.
pub record AnswersAdd (old new : CacheView) (m : Mark) (now : Time)
    (result : Result Added CacheFault) : Type 0 where
  pub seen : IfOk result (λ added. Adds old new m now added)
  pub too_large : IsErrOf result TooLarge ↔ (fits old.config m.span ≡ false)
  pub unchanged : OnErr result (new ≡ old)
  pub memory : fits old.config m.span ≡ true → is_kept old.floor m ≡ false → IsOk result

-- What an Add of several marks answers, which adds all of them or none.
pub record AnswersAddAll (old new : CacheView) (ms : List Mark) (now : Time)
    (result : Result Added CacheFault) : Type 0 where
  pub seen : IfOk result (λ added. AddsAll old new ms now added)
  pub too_large : IsErrOf result TooLarge ↔ (all_fit old.config ms ≡ false)
  pub unchanged : OnErr result (new ≡ old)
  pub memory : all_fit old.config ms ≡ true → is_any_kept old.floor ms ≡ false → IsOk result

-- the answer to an Add of a span, with its fault as that of an Add over bytes
abbrev pub over_bytes : Result Added CacheFault → Result Added AddBetweenFault
over_bytes (Ok added) = Ok added
over_bytes (Err fault) = Err (of_cache_fault fault)

-- What an Add over bytes answers: why they name no span, and else what an Add of that span does.
abbrev pub AnswersAddNamed : CacheView → CacheView → Result SpanView AddBetweenFault → ValueView →
    Time → Result Added AddBetweenFault → Type 0
AnswersAddNamed old new (Err fault) value now result = IsErrOf result fault × (new ≡ old)
AnswersAddNamed old new (Ok span) value now result = (answer : Result Added CacheFault)
    × (result ≡ over_bytes answer)
    × AnswersAdd old new (record { span = span; value = value }) now answer
