-- The front page with one more mark takes its place.
use Rattle.std.proofs.Common.{◌≡◌, ◌∙◌, ◌∷◌, refl, sym, ap, subst, List, Bool, true, false}
use Rattle.std.specs.Prelude.{IfOk, OnErr, Result, Ok, Err}
use Rattle.std.specs.Arc.{arc_value}
use Rattle.tsc_time.specs.declared.memory.NoMemory.{NoMemory}
use Rattle.tsc_page_model.specs.Page.{Mark}
use Rattle.tsc_page_model.specs.PageView.{PageView, has_room_for}
use Rattle.tsc_page_model.proofs.PageAdds.{reported_room, reported_full, reported_unchanged}
use Rattle.tsc_cache.specs.CacheView.{IsMarked}
use Rattle.tsc_cache.specs.CacheParts.{front_of, older_of}
use Rattle.tsc_cache.proofs.MarkedFront.{marked_in_place, adds_beside, marked_beside, full_beside, beside}
use Rattle.tsc_cache.proofs.page_stack.Pages.mark_span.Goals as goal

pub returns-in-Some-clause-room : goal.returns-in-Some-clause-room
returns-in-Some-clause-room c =
    subst (λ (v : PageView). IfOk c.add_span.result
    (λ done. done ≡ has_room_for v c.args.span.now)) c.in-Some.ensures.value
    (reported_room c.in-Some.front.now c.add_span.new.self c.args.span.now c.args.value
    c.add_span.result c.add_span.ensures.reported)

pub returns-in-Some-clause-marked : goal.returns-in-Some-clause-marked
returns-in-Some-clause-marked c =
    let m : Mark = record { span = c.args.span.now; value = c.args.value } in
    let old : PageView = front_of c.args.self.now in
    let is : c.in-Some.front.now ≡ old = c.in-Some.ensures.value in
    let marked = marked_in_place c.add_span.result c.in-Some.front.now c.add_span.new.self m
    c.add_span.ensures.reported in
    beside c.add_span.result (IsMarked old c.add_span.new.self m) _ refl
    (subst (λ (v : PageView). IfOk c.add_span.result
    (λ done. done ≡ true → IsMarked v c.add_span.new.self m)) is marked)

-- pages whose first one is the same
left_as : {E : Type 0} (r : Result Bool E) (old new was : PageView) (rest : List PageView) →
    old ≡ was → IfOk r (λ done. done ≡ false → new ≡ old) →
    IfOk r (λ done. done ≡ false → new ∷ rest ≡ was ∷ rest)
left_as (Ok done) old new was rest is left = λ e. ap (λ (v : PageView). v ∷ rest) (left e ∙ is)
left_as (Err e) old new was rest is left = tt

kept_as : {E : Type 0} (r : Result Bool E) (old new was : PageView) (rest : List PageView) →
    old ≡ was → OnErr r (new ≡ old) → OnErr r (new ∷ rest ≡ was ∷ rest)
kept_as (Ok done) old new was rest is kept = tt
kept_as (Err e) old new was rest is kept = ap (λ (v : PageView). v ∷ rest) (kept ∙ is)

pub returns-in-Some-clause-full : goal.returns-in-Some-clause-full
returns-in-Some-clause-full c = left_as c.add_span.result c.in-Some.front.now
    c.add_span.new.self (front_of c.args.self.now) (older_of c.args.self.now)
    c.in-Some.ensures.value (reported_full c.in-Some.front.now c.add_span.new.self c.args.span.now
    c.args.value c.add_span.result c.add_span.ensures.reported)

pub returns-in-Some-clause-unchanged : goal.returns-in-Some-clause-unchanged
returns-in-Some-clause-unchanged c = kept_as c.add_span.result c.in-Some.front.now
    c.add_span.new.self (front_of c.args.self.now) (older_of c.args.self.now)
    c.in-Some.ensures.value (reported_unchanged c.in-Some.front.now c.add_span.new.self
    c.args.span.now c.args.value c.add_span.result c.add_span.ensures.reported)

pub returns-in_default-clause-room : goal.returns-in_default-clause-room
returns-in_default-clause-room c =
    subst (λ (v : PageView). false ≡ has_room_for v c.args.span.now) c.deref.ensures
    (sym (full_beside NoMemory c.in_ok-front-in-None.field-0 c.deref.result.now c.args.span.now
    c.args.value c.in_default.is c.in_ok-front-in-None.ensures.reported))

pub returns-in_ok-self-in-None-clause-room : goal.returns-in_ok-self-in-None-clause-room
returns-in_ok-self-in-None-clause-room c =
    let adds = adds_beside NoMemory c.in_ok-front-in-None.field-0 c.deref.result.now
    c.in-Some-2.front c.args.span.now c.args.value c.in-Some-2.is
    c.in_ok-front-in-None.ensures.reported in
    subst (λ (v : PageView). true ≡ has_room_for v c.args.span.now) c.deref.ensures
    (sym adds.room)

pub returns-in_ok-self-in-None-clause-marked : goal.returns-in_ok-self-in-None-clause-marked
returns-in_ok-self-in-None-clause-marked c e =
    let m : Mark = record { span = c.args.span.now; value = c.args.value } in
    let old : PageView = c.deref.result.now in
    let marked : IsMarked old c.in-Some-2.front m =
    marked_beside NoMemory c.in_ok-front-in-None.field-0 old c.in-Some-2.front m c.in-Some-2.is
    c.in_ok-front-in-None.ensures.reported in (
      subst (λ (v : PageView). IsMarked v (arc_value c.in_ok-self-in-None.field-0) m)
          c.deref.ensures
          (subst (λ (v : PageView). IsMarked old v m) (sym c.in_ok-self-in-None.ensures.ok) marked),
      refl,
    )
