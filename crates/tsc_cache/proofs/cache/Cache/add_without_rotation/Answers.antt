-- What can be seen of a cache with one mark more in place stands for the next state.
use Rattle.std.proofs.Common.{◌≡◌, ◌∙◌, sym, ap, subst, true}
use Rattle.tsc_time.specs.Time.{Time}
use Rattle.tsc_span.specs.Span.{SpanView}
use Rattle.tsc_page_model.specs.Page.{Mark}
use Rattle.tsc_cache.specs.contracts.cache.Cache.{the_view}
use Rattle.tsc_cache.specs.State.{is_kept}
use Rattle.tsc_cache.specs.CacheView.{CacheView, MarksFront, Adds, front_has_room_for}
use Rattle.tsc_cache.specs.CacheParts.{pages_of}
use Rattle.tsc_cache.proofs.StatesSeen.{marks_adds, marks_stacked}
use Rattle.tsc_cache.proofs.cache.Cache.add_without_rotation.Goals as goal
use Rattle.tsc_cache.proofs.cache.Cache.add_without_rotation.Goals.{After-without_rotation}

pub invariant_of-self-then-branch : goal.invariant_of-self-then-branch
invariant_of-self-then-branch c =
    marks_stacked (pages_of c.self.inside.pages) (pages_of c.mark_span.new.self)
    (record { span = c.for_add.result; value = c.args.value }) c.self.invariant
    (c.in_ok-mark_span.ensures.marked c.if-branch.true)

-- what the mark made, at whatever moment
in_place : (c : After-without_rotation) (now : Time)
    → Adds c.args.self.now (the_view
    (record {
      config = c.self.inside.config;
      floor = c.self.inside.floor;
      pages = c.mark_span.new.self;
      rotations = c.self.inside.rotations;
    }))
    (record { span = c.args.span.now; value = c.args.value }) now c.without_rotation.result
in_place c now =
    let m : Mark = record { span = c.args.span.now; value = c.args.value } in
    let new = the_view (record {
      config = c.self.inside.config;
      floor = c.self.inside.floor;
      pages = c.mark_span.new.self;
      rotations = c.self.inside.rotations;
    }) in
    let kept : is_kept c.args.self.now.floor m ≡ true = sym c.keeps.ensures ∙
    c.if-not-keeps.false in
    let room : front_has_room_for c.args.self.now.pages c.args.span.now ≡ true =
    ap (front_has_room_for c.args.self.now.pages) (sym c.for_add.ensures) ∙
    ap (λ (v : CacheView). front_has_room_for v.pages c.for_add.result) (sym c.self.view_is) ∙
    sym c.in_ok-mark_span.ensures.room ∙ c.if-branch.true in
    let marks : MarksFront (pages_of c.self.inside.pages) new.pages m =
    subst (λ (s : SpanView). MarksFront (pages_of c.self.inside.pages) new.pages
    (record { span = s; value = c.args.value })) c.for_add.ensures
    (c.in_ok-mark_span.ensures.marked c.if-branch.true) in
    marks_adds c.args.self.now new m now c.without_rotation.result kept room
    (ap (λ (v : CacheView). v.config) c.self.view_is)
    (subst (λ (v : CacheView). MarksFront v.pages new.pages m) c.self.view_is marks)
    (ap (λ (v : CacheView). v.floor) c.self.view_is)
    (ap (λ (v : CacheView). v.rotations) c.self.view_is) c.without_rotation.ensures
