-- What the mark, or the rotation before it, makes of all that can be seen, for the span that lies
-- elsewhere, which is the same span.
use Rattle.std.proofs.Common.{rules, ◌≡◌, ◌∙◌, sym, ap, subst, Bool, true, false}
use mathlib.Core.Bool.{true≢false}
use Rattle.std.specs.Prelude.{IfOk, not, ◌&&◌}
use Rattle.tsc_time.specs.Time.{Time, is_before}
use Rattle.tsc_span.specs.Span.{SpanView, is_empty_span}
use Rattle.tsc_page_model.specs.Page.{Mark}
use Rattle.tsc_cache.specs.Rotation.{RotatesWith}
use Rattle.tsc_cache.specs.contracts.cache.Cache.{the_view}
use Rattle.tsc_cache.specs.declared.added.Added.{Added}
use Rattle.tsc_cache.specs.State.{is_kept, kept_after_rotation}
use Rattle.tsc_cache.specs.CacheView.{CacheView, Adds, MarksFront, front_has_room_for}
use Rattle.tsc_cache.specs.CacheParts.{pages_of}
use Rattle.tsc_cache.specs.Stacks.{AreStacked}
use Rattle.tsc_cache.proofs.StatesSeen.{marks_adds, marks_stacked}
use Rattle.tsc_cache.proofs.AddsSeen.{rotated_seen}
use Rattle.tsc_cache.proofs.cache.CacheTimestampCache.add_one_fitting.Goals as goal
use Rattle.tsc_cache.proofs.cache.CacheTimestampCache.add_one_fitting.Goals.{After-without_rotation}
use Rattle.tsc_cache.proofs.cache.CacheTimestampCache.add_one_fitting.Goals.{After-rotate}
use Rattle.tsc_cache.proofs.cache.CacheTimestampCache.add_one_fitting.Goals.{then-not-is_empty, else-not-is_empty}

-- a mark that is not empty and lies above the floor is kept
kept_by : (floor : Time) (m : Mark) (b : Bool) → is_empty_span m.span ≡ false →
    b ≡ is_before floor m.value.time → b ≡ true → is_kept floor m ≡ true
kept_by floor m b some above is =
    ap (λ x. not x && is_before floor m.value.time) some ∙ sym above ∙ is

pub invariant_of-self-then-branch : goal.invariant_of-self-then-branch
invariant_of-self-then-branch c =
    marks_stacked (pages_of c.self.inside.pages) (pages_of c.mark_span.new.self)
    (record { span = c.for_add-span.result; value = c.args.value }) c.self.invariant
    (c.in_ok-mark_span.ensures.marked c.if-branch.true)

-- what the mark made
in_place : (c : After-without_rotation)
    → Adds c.args.self.now (the_view
    (record {
      config = c.self.inside.config;
      floor = c.self.inside.floor;
      pages = c.mark_span.new.self;
      rotations = c.self.inside.rotations;
    }))
    (record { span = c.args.span.now; value = c.args.value }) c.args.now
    c.without_rotation.result
in_place c =
    let m : Mark = record { span = c.args.span.now; value = c.args.value } in
    let new = the_view (record {
      config = c.self.inside.config;
      floor = c.self.inside.floor;
      pages = c.mark_span.new.self;
      rotations = c.self.inside.rotations;
    }) in
    let kept : is_kept c.args.self.now.floor m ≡ true = elim c.if-not-is_empty.branch [
      | then-not-is_empty w ↦ kept_by c.args.self.now.floor m w.lt-is_kept.result
          (sym w.if-not-is_empty.ensures)
          (search rules)
          (sym w.is_kept-is ∙ c.if-not-is_kept.false)
      | else-not-is_empty w ↦ absurd (true≢false (sym c.if-not-is_kept.false ∙ w.is_kept-is ∙
          ap not w.if-not-is_empty.false))
    ] in
    let room : front_has_room_for c.args.self.now.pages c.args.span.now ≡ true =
    ap (front_has_room_for c.args.self.now.pages) (sym c.for_add-span.ensures) ∙
    ap (λ (v : CacheView). front_has_room_for v.pages c.for_add-span.result) (sym c.self.view_is) ∙
    sym c.in_ok-mark_span.ensures.room ∙ c.if-branch.true in
    let marks : MarksFront (pages_of c.self.inside.pages) new.pages m =
    subst (λ (s : SpanView). MarksFront (pages_of c.self.inside.pages) new.pages
    (record { span = s; value = c.args.value })) c.for_add-span.ensures
    (c.in_ok-mark_span.ensures.marked c.if-branch.true) in
    marks_adds c.args.self.now new m c.args.now c.without_rotation.result kept room
    (ap (λ (v : CacheView). v.config) c.self.view_is)
    (subst (λ (v : CacheView). MarksFront v.pages new.pages m) c.self.view_is marks)
    (ap (λ (v : CacheView). v.floor) c.self.view_is)
    (ap (λ (v : CacheView). v.rotations) c.self.view_is) c.without_rotation.ensures

pub returns-then-branch-clause-seen : goal.returns-then-branch-clause-seen
returns-then-branch-clause-seen c = in_place
    (goal.at.returns-then-branch-clause-seen c).After-without_rotation

-- what the rotation made
turned : (c : After-rotate) → IfOk c.rotate.result
    (λ a. Adds c.args.self.now c.rotate.new.self
    (record { span = c.args.span.now; value = c.args.value }) c.args.now a)
turned c =
    let m : Mark = record { span = c.for_add-span.result; value = c.args.value } in
    let own : Mark = record { span = c.args.span.now; value = c.args.value } in
    let kept : is_kept c.args.self.now.floor m ≡ true =
    ap (λ (s : SpanView). is_kept c.args.self.now.floor (record { span = s; value = c.args.value }))
    c.for_add-span.ensures ∙ elim c.if-not-is_empty.branch [
      | then-not-is_empty w ↦ kept_by c.args.self.now.floor own w.lt-is_kept.result
          (sym w.if-not-is_empty.ensures)
          (search rules)
          (sym w.is_kept-is ∙ c.if-not-is_kept.false)
      | else-not-is_empty w ↦ absurd (true≢false (sym c.if-not-is_kept.false ∙ w.is_kept-is ∙
          ap not w.if-not-is_empty.false))
    ] in
    let room : front_has_room_for c.args.self.now.pages c.for_add-span.result ≡ false =
    ap (λ (v : CacheView). front_has_room_for v.pages c.for_add-span.result) (sym c.self.view_is) ∙
    sym c.in_ok-mark_span.ensures.room ∙ c.if-branch.false in
    let same : record {
      config = c.self.inside.config;
      floor = c.self.inside.floor;
      pages = pages_of c.mark_span.new.self;
      rotations = c.self.inside.rotations;
    } ≡
    c.args.self.now =
    ap (λ ps. record {
      config = c.self.inside.config;
      floor = c.self.inside.floor;
      pages = ps;
      rotations = c.self.inside.rotations;
    }) (c.in_ok-mark_span.ensures.full c.if-branch.false) ∙
    c.self.view_is in
    subst (λ (s : SpanView). IfOk c.rotate.result
    (λ a. Adds c.args.self.now c.rotate.new.self (record { span = s; value = c.args.value })
    c.args.now a)) c.for_add-span.ensures
    (rotated_seen c.rotate.result c.args.self.now c.rotate.new.self m c.args.now kept room
    (c.rotate.ensures.config ∙ ap (λ (v : CacheView). v.config) same)
    (subst (λ (v : CacheView). IfOk c.rotate.result
    (λ (a : Added). RotatesWith v c.rotate.new.self m c.args.now a.evicted ×
    (a ≡ kept_after_rotation a.evicted))) same c.rotate.ensures.rotated))

pub returns-clause-seen : goal.returns-clause-seen
returns-clause-seen c = turned (goal.at.returns-clause-seen c).After-rotate

pub invariant_of-self-2 : goal.invariant_of-self-2
invariant_of-self-2 c = subst AreStacked (sym (c.in_ok-mark_span.ensures.full c.if-branch.false))
    c.self.invariant

pub returns-clause-unchanged : goal.returns-clause-unchanged
returns-clause-unchanged c = search rules
