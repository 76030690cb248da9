-- What a call that adds to a page tells, one thing after another.
use Rattle.std.proofs.Common.{◌≡◌, ap, sym, subst, Bool, true, false}
use mathlib.Core.Bool.{true≢false}
use Rattle.std.specs.Prelude.{Option, Some, None, Result, Ok, Err, IfOk, IfSome, OnErr, is_some}
use Rattle.std.specs.Result.{IsErr}
use Rattle.tsc_time.specs.Time.{later}
use Rattle.tsc_time.specs.ValueView.{ValueView}
use Rattle.tsc_span.specs.Span.{SpanView}
use Rattle.tsc_page_model.specs.Page.{Mark}
use Rattle.tsc_page_model.specs.PageView.{PageView, StandsWith, HasKeysWith, AnswersWith, has_room_for}
use Rattle.tsc_page_model.specs.PageAdds.{AddsMark, IsMarkReported, IsMarkedReported, ReportsTry, ReportsMade}

-- the same of the same span and value
pub adds_as : (old new : PageView) (s q : SpanView) (v w : ValueView) → q ≡ s → w ≡ v →
    AddsMark old new q w → AddsMark old new s v
adds_as old new s q v w span value adds =
    subst (λ (x : ValueView). AddsMark old new s x) value
    (subst (λ (x : SpanView). AddsMark old new x w) span adds)

-- a call that adds where there is room
module _ {E : Type 0} (old new : PageView) (s : SpanView) (v : ValueView) where
  pub reported_room : (r : Result Bool E) → IsMarkReported old new s v r →
      IfOk r (λ done. done ≡ has_room_for old s)
  reported_room (Ok true) reported = sym reported.room
  reported_room (Ok false) reported = sym reported.0
  reported_room (Err e) reported = tt

  pub reported_stands : (r : Result Bool E) → IsMarkReported old new s v r →
      IfOk r (λ done. done ≡ true → StandsWith old new (record { span = s; value = v }))
  reported_stands (Ok true) reported = λ is. reported.stands
  reported_stands (Ok false) reported = λ is. absurd (true≢false (sym is))
  reported_stands (Err e) reported = tt

  pub reported_size : (r : Result Bool E) → IsMarkReported old new s v r → new.size ≡ old.size
  reported_size (Ok true) reported = reported.size
  reported_size (Ok false) reported = ap (λ (p : PageView). p.size) reported.1
  reported_size (Err e) reported = ap (λ (p : PageView). p.size) reported

  pub reported_top : (r : Result Bool E) → IsMarkReported old new s v r →
      IfOk r (λ done. done ≡ true → new.top ≡ later old.top v.time)
  reported_top (Ok true) reported = λ is. reported.top
  reported_top (Ok false) reported = λ is. absurd (true≢false (sym is))
  reported_top (Err e) reported = tt

  pub reported_keys : (r : Result Bool E) → IsMarkReported old new s v r →
      IfOk r (λ done. done ≡ true → HasKeysWith old new s)
  reported_keys (Ok true) reported = λ is. reported.keys
  reported_keys (Ok false) reported = λ is. absurd (true≢false (sym is))
  reported_keys (Err e) reported = tt

  pub reported_answers : (r : Result Bool E) → IsMarkReported old new s v r →
      IfOk r (λ done. done ≡ true → AnswersWith old new s v)
  reported_answers (Ok true) reported = λ is. reported.answers
  reported_answers (Ok false) reported = λ is. absurd (true≢false (sym is))
  reported_answers (Err e) reported = tt

  pub reported_full : (r : Result Bool E) → IsMarkReported old new s v r →
      IfOk r (λ done. done ≡ false → new ≡ old)
  reported_full (Ok true) reported = λ is. absurd (true≢false is)
  reported_full (Ok false) reported = λ is. reported.1
  reported_full (Err e) reported = tt

  pub reported_unchanged : (r : Result Bool E) → IsMarkReported old new s v r → OnErr r (new ≡ old)
  reported_unchanged (Ok true) reported = tt
  reported_unchanged (Ok false) reported = tt
  reported_unchanged (Err e) reported = reported

  pub reported_try : (r : Result Bool E) → IsMarkReported old new s v r →
      ReportsTry old new (record { span = s; value = v }) r
  reported_try r reported = record {
    stands = reported_stands r reported;
    size = reported_size r reported;
    top = reported_top r reported;
    keys = reported_keys r reported;
    answers = reported_answers r reported;
    left = reported_full r reported;
    unchanged = reported_unchanged r reported;
  }

  -- and where it is refused
  pub refused_mark : (r : Result Bool E) → IsErr r → new ≡ old → IsMarkReported old new s v r
  refused_mark (Ok d) is same = absurd (true≢false (sym is))
  refused_mark (Err e) is same = same

-- a call that makes another page
module _ {E : Type 0} (old : PageView) (s : SpanView) (v : ValueView) where
  pub marked_room : (r : Result (Option PageView) E) → IsMarkedReported old s v r →
      IfOk r (λ made. is_some made ≡ has_room_for old s)
  marked_room (Ok (Some new)) reported = sym reported.room
  marked_room (Ok None) reported = sym reported
  marked_room (Err e) reported = tt

  pub marked_stands : (r : Result (Option PageView) E) → IsMarkedReported old s v r →
      IfOk r (λ made. IfSome made (λ new. StandsWith old new (record { span = s; value = v })))
  marked_stands (Ok (Some new)) reported = reported.stands
  marked_stands (Ok None) reported = tt
  marked_stands (Err e) reported = tt

  pub marked_size : (r : Result (Option PageView) E) → IsMarkedReported old s v r →
      IfOk r (λ made. IfSome made (λ new. new.size ≡ old.size))
  marked_size (Ok (Some new)) reported = reported.size
  marked_size (Ok None) reported = tt
  marked_size (Err e) reported = tt

  pub marked_top : (r : Result (Option PageView) E) → IsMarkedReported old s v r →
      IfOk r (λ made. IfSome made (λ new. new.top ≡ later old.top v.time))
  marked_top (Ok (Some new)) reported = reported.top
  marked_top (Ok None) reported = tt
  marked_top (Err e) reported = tt

  pub marked_keys : (r : Result (Option PageView) E) → IsMarkedReported old s v r →
      IfOk r (λ made. IfSome made (λ new. HasKeysWith old new s))
  marked_keys (Ok (Some new)) reported = reported.keys
  marked_keys (Ok None) reported = tt
  marked_keys (Err e) reported = tt

  pub marked_answers : (r : Result (Option PageView) E) → IsMarkedReported old s v r →
      IfOk r (λ made. IfSome made (λ new. AnswersWith old new s v))
  marked_answers (Ok (Some new)) reported = reported.answers
  marked_answers (Ok None) reported = tt
  marked_answers (Err e) reported = tt

  pub marked_made : (r : Result (Option PageView) E) → IsMarkedReported old s v r →
      ReportsMade old (record { span = s; value = v }) r
  marked_made r reported = record {
    room = marked_room r reported;
    stands = marked_stands r reported;
    size = marked_size r reported;
    top = marked_top r reported;
    keys = marked_keys r reported;
    answers = marked_answers r reported;
  }

-- a call that tries to, and is refused, or leaves the page as it is, or adds
module _ {E : Type 0} (old new : PageView) (m : Mark) where
  pub refused_try : (r : Result Bool E) → IsErr r → new ≡ old → ReportsTry old new m r
  refused_try (Ok d) is same = absurd (true≢false (sym is))
  refused_try (Err e) is same = record {
    stands = tt;
    size = ap (λ (p : PageView). p.size) same;
    top = tt;
    keys = tt;
    answers = tt;
    left = tt;
    unchanged = same;
  }

  pub left_try : new ≡ old → ReportsTry {E = E} old new m (Ok false)
  left_try same = record {
    stands = λ is. absurd (true≢false (sym is));
    size = ap (λ (p : PageView). p.size) same;
    top = λ is. absurd (true≢false (sym is));
    keys = λ is. absurd (true≢false (sym is));
    answers = λ is. absurd (true≢false (sym is));
    left = λ is. same;
    unchanged = tt;
  }

  pub added_try : AddsMark old new m.span m.value → ReportsTry {E = E} old new m (Ok true)
  added_try adds = record {
    stands = λ is. adds.stands;
    size = adds.size;
    top = λ is. adds.top;
    keys = λ is. adds.keys;
    answers = λ is. adds.answers;
    left = λ is. absurd (true≢false is);
    unchanged = tt;
  }
