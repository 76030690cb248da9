-- What the mark, or the rotation before it, makes of all that can be seen.
use Rattle.std.proofs.Common.{rules, ◌≡◌, ◌∙◌, sym, ap, subst, true, false}
use Rattle.tsc_page_model.specs.Page.{Mark}
use Rattle.tsc_cache.specs.contracts.plain_cache.PlainCache.{the_view}
use Rattle.tsc_cache.specs.State.{is_kept}
use Rattle.tsc_cache.specs.CacheView.{CacheView, MarksFront, front_has_room_for}
use Rattle.tsc_cache.proofs.StatesSeen.{marks_adds}
use Rattle.tsc_cache.proofs.AddsSeen.{rotated_seen}
use Rattle.tsc_cache.proofs.plain_cache.PlainCacheTimestampCache.add_one_fitting.Goals as goal

pub returns-then-room-clause-seen : goal.returns-then-room-clause-seen
returns-then-room-clause-seen c =
    let m : Mark = record { span = c.args.span.now; value = c.args.value } in
    let new = the_view (record {
      config = c.self.inside.config;
      floor = c.self.inside.floor;
      pages = c.mark_front.new.self;
      rotations = c.self.inside.rotations;
    }) in
    let kept : is_kept c.args.self.now.floor m ≡ true = sym c.keeps.ensures ∙
    c.if-not-keeps.false in
    let room : front_has_room_for c.args.self.now.pages c.args.span.now ≡ true = search rules in
    marks_adds c.args.self.now new m c.args.now c.without_rotation.result kept room
    (ap (λ (v : CacheView). v.config) c.self.view_is)
    (subst (λ (v : CacheView). MarksFront v.pages new.pages m) c.self.view_is
    c.in_ok-mark_front.ensures.marked)
    (ap (λ (v : CacheView). v.floor) c.self.view_is)
    (ap (λ (v : CacheView). v.rotations) c.self.view_is) c.without_rotation.ensures

pub returns-clause-seen : goal.returns-clause-seen
returns-clause-seen c =
    let m : Mark = record { span = c.args.span.now; value = c.args.value } in
    let kept : is_kept c.args.self.now.floor m ≡ true = sym c.keeps.ensures ∙
    c.if-not-keeps.false in
    let room : front_has_room_for c.args.self.now.pages c.args.span.now ≡ false = search rules in
    rotated_seen c.rotate.result c.args.self.now c.rotate.new.self m c.args.now kept room
    c.rotate.ensures.config c.rotate.ensures.rotated
