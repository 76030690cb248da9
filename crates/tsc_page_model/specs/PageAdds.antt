-- What an Add makes of all that can be seen of a page.
use Rattle.std.specs.Prelude.{◌≡◌, Bool, true, false, Option, Some, None, is_some, Result, Ok, Err, OnOk, OnErr, IfOk, IfSome}
use Rattle.tsc_time.specs.Time.{later}
use Rattle.tsc_time.specs.ValueView.{ValueView}
use Rattle.tsc_span.specs.Span.{SpanView}
use Rattle.tsc_page_model.specs.Page.{Mark}
use Rattle.tsc_page_model.specs.PageView.{PageView, StandsWith, HasKeysWith, AnswersWith, has_room_for}

-- A page with one more span and its value, for which there was room.
pub record AddsMark (old new : PageView) (span : SpanView) (value : ValueView) : Type 0 where
  pub room : has_room_for old span ≡ true
  pub stands : StandsWith old new (record { span = span; value = value })
  pub size : new.size ≡ old.size
  pub top : new.top ≡ later old.top value.time
  pub keys : HasKeysWith old new span
  pub answers : AnswersWith old new span value

-- what a call tells that adds where there is room, and else leaves all as it is
abbrev pub IsMarkReported : {E : Type 0} → (old new : PageView) → SpanView → ValueView →
    Result Bool E → Type 0
IsMarkReported old new span value (Ok true) = AddsMark old new span value
IsMarkReported old new span value (Ok false) = (has_room_for old span ≡ false) × (new ≡ old)
IsMarkReported old new span value (Err e) = new ≡ old

-- what one tells that makes another page of it
abbrev pub IsMarkedReported : {E : Type 0} → PageView → SpanView → ValueView →
    Result (Option PageView) E → Type 0
IsMarkedReported old span value (Ok (Some new)) = AddsMark old new span value
IsMarkedReported old span value (Ok None) = has_room_for old span ≡ false
IsMarkedReported old span value (Err e) = Unit {0}

-- What a call tells that adds a mark. A page stays as it is where memory is refused.
pub record ReportsMark {T E : Type 0} (old new : PageView) (m : Mark) (reported : Result T E) : Type
    0 where
  pub stands : OnOk reported (StandsWith old new m)
  pub size : new.size ≡ old.size
  pub top : OnOk reported (new.top ≡ later old.top m.value.time)
  pub keys : OnOk reported (HasKeysWith old new m.span)
  pub answers : OnOk reported (AnswersWith old new m.span m.value)
  pub unchanged : OnErr reported (new ≡ old)

-- What a call tells that adds a mark or leaves the page as it is, and says whether it added.
pub record ReportsTry {E : Type 0} (old new : PageView) (m : Mark) (reported : Result Bool E) : Type
    0 where
  pub stands : IfOk reported (λ done. done ≡ true → StandsWith old new m)
  pub size : new.size ≡ old.size
  pub top : IfOk reported (λ done. done ≡ true → new.top ≡ later old.top m.value.time)
  pub keys : IfOk reported (λ done. done ≡ true → HasKeysWith old new m.span)
  pub answers : IfOk reported (λ done. done ≡ true → AnswersWith old new m.span m.value)
  pub left : IfOk reported (λ done. done ≡ false → new ≡ old)
  pub unchanged : OnErr reported (new ≡ old)

-- What a call tells that makes another page, with one more mark, where there is room for it.
pub record ReportsMade {E : Type 0} (old : PageView) (m : Mark)
    (reported : Result (Option PageView) E) : Type 0 where
  pub room : IfOk reported (λ made. is_some made ≡ has_room_for old m.span)
  pub stands : IfOk reported (λ made. IfSome made (λ page. StandsWith old page m))
  pub size : IfOk reported (λ made. IfSome made (λ page. page.size ≡ old.size))
  pub top : IfOk reported (λ made. IfSome made (λ page. page.top ≡ later old.top m.value.time))
  pub keys : IfOk reported (λ made. IfSome made (λ page. HasKeysWith old page m.span))
  pub answers : IfOk reported (λ made. IfSome made (λ page. AnswersWith old page m.span m.value))
