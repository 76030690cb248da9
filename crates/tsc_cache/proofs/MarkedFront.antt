-- What a page tells that was given one mark more: in place, or beside it.
use Rattle.std.proofs.Common.{◌≡◌, ◌∙◌, ◌≤◌, ℕ, sym, subst, nat_le, Bool, true, false}
use Rattle.std.proofs.lemmas.Bool.{le-leb, leb-true}
use mathlib.Core.Bool.{true≢false}
use Rattle.std.specs.Prelude.{Result, Ok, Err, Option, Some, None, IfOk}
use Rattle.tsc_time.specs.ValueView.{ValueView}
use Rattle.tsc_span.specs.Span.{SpanView, span_cost}
use Rattle.tsc_page_model.specs.Page.{Mark}
use Rattle.tsc_page_model.specs.PageView.{PageView, has_room_for}
use Rattle.tsc_page_model.specs.PageAdds.{AddsMark, IsMarkReported, IsMarkedReported}
use Rattle.tsc_cache.specs.CacheView.{IsMarked}

-- the page that an Add makes
marked_of : (old new : PageView) (m : Mark) → AddsMark old new m.span m.value → IsMarked old new m
marked_of old new m adds =
    record { size = adds.size; top = adds.top; keys = adds.keys; answers = adds.answers }

-- what a page tells of a span over keys that lie elsewhere
pub marked_in_place : {E : Type 0} (r : Result Bool E) (old new : PageView) (m : Mark) →
    IsMarkReported old new m.span m.value r → IfOk r (λ done. done ≡ true → IsMarked old new m)
marked_in_place (Ok true) old new m reported = λ is. marked_of old new m reported
marked_in_place (Ok false) old new m reported = λ is. absurd (true≢false (sym is))
marked_in_place (Err e) old new m reported = tt

-- and of a page that it makes beside itself, or has no room for
module _ (E : Type 0) (made : Option PageView) where
  pub adds_beside : (old new : PageView) (s : SpanView) (v : ValueView) → made ≡ Some new →
      IsMarkedReported {E = E} old s v (Ok made) → AddsMark old new s v
  adds_beside old new s v is reported =
      subst (λ (o : Option PageView). IsMarkedReported {E = E} old s v (Ok o)) is reported

  pub marked_beside : (old new : PageView) (m : Mark) → made ≡ Some new →
      IsMarkedReported {E = E} old m.span m.value (Ok made) → IsMarked old new m
  marked_beside old new m is reported =
      marked_of old new m (adds_beside old new m.span m.value is reported)

  pub full_beside : (old : PageView) (s : SpanView) (v : ValueView) → made ≡ None →
      IsMarkedReported {E = E} old s v (Ok made) → has_room_for old s ≡ false
  full_beside old s v is reported =
      subst (λ (o : Option PageView). IsMarkedReported {E = E} old s v (Ok o)) is reported

-- a page that has room for a span takes it
pub put_on : (E : Type 0) (done : Bool) (old new : PageView) (s : SpanView) (v : ValueView) →
    has_room_for old s ≡ true → IsMarkReported {E = E} old new s v (Ok done) → AddsMark old new s v
put_on E true old new s v room reported = reported
put_on E false old new s v room reported = absurd (true≢false (sym room ∙ reported.0))

-- a new page has room for a span that costs no more than the most that a page may have
pub fits_new : (page : PageView) (s : SpanView) (size cost most : ℕ) → cost ≡ span_cost s →
    (cost ≤ most → cost ≤ size) → nat_le (span_cost s) most ≡ true →
    has_room_for page s ≡ nat_le (span_cost s) size → has_room_for page s ≡ true
fits_new page s size cost most is enough fits room =
    let paid : cost ≤ most =
    subst (λ n. n ≤ most) (sym is) (leb-true (span_cost s) most fits) in
    room ∙ le-leb (span_cost s) size (subst (λ n. n ≤ size) is (enough paid))

-- and with the pages behind it, which stay
pub beside : {E : Type 0} (r : Result Bool E) (P Q : Type 0) → Q →
    IfOk r (λ done. done ≡ true → P) → IfOk r (λ done. done ≡ true → P × Q)
beside (Ok done) P Q q p = λ e. (p e, q)
beside (Err e) P Q q p = tt
