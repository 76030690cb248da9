-- A new page in front, and the pages behind it that stay.
use Rattle.std.proofs.Common.{◌≡◌, ◌∙◌, refl, sym, ap, subst, nat_le, true}
use Rattle.std.specs.Prelude.{Result, Ok, Err, OnErr}
use Rattle.tsc_time.specs.declared.memory.NoMemory.{NoMemory}
use Rattle.tsc_span.specs.Span.{span_cost}
use Rattle.tsc_page_model.specs.Page.{Mark, empty_page}
use Rattle.tsc_page_model.specs.PageView.{PageView, Represents}
use Rattle.tsc_cache.specs.Rotation.{RotatesWith, front_marked, saturating_inc}
use Rattle.tsc_cache.specs.declared.added.Added.{Added}
use Rattle.tsc_cache.specs.contracts.cache.Cache.{the_view}
use Rattle.tsc_cache.specs.State.{kept_after_rotation}
use Rattle.tsc_cache.specs.CacheView.{CacheView}
use Rattle.tsc_cache.specs.CacheParts.{front_of, older_of, pages_of}
use Rattle.tsc_cache.specs.Stacks.{Drops}
use Rattle.tsc_cache.proofs.StatesSeen.{front_stands, rotates_with, rotates_stacked}
use Rattle.tsc_cache.proofs.MarkedFront.{put_on, fits_new}
use Rattle.tsc_cache.proofs.cache.Cache.rotate.Goals as goal

pub invariant_of-self-2 : goal.invariant_of-self-2
invariant_of-self-2 c =
    let drops = subst (λ ps. Drops c.self.inside.config c.self.inside.floor c.args.now ps
    (older_of c.evict-floor.new.self) c.evict-floor.result.0 c.evict-floor.result.1)
    c.in_ok-push_front.ensures.older c.evict-floor.ensures.dropped in
    let front_is = c.evict-floor.ensures.front ∙ c.in_ok-push_front.ensures.front in
    let m : Mark = record { span = c.args.span.now; value = c.args.value } in
    let put = put_on NoMemory _ c.in_ok-front.front c.add_span.new.self c.args.span.now c.args.value
    (fits_new c.in_ok-front.front c.args.span.now c.next_size-size.result c.cost_of.result
    c.self.inside.config.page_max c.cost_of.ensures c.next_size-size.ensures.enough
    (subst (λ (v : CacheView). nat_le (span_cost c.args.span.now) v.config.page_max ≡ true)
    (sym c.self.view_is) c.requires.fits) (c.in_ok-front.ensures.room c.args.span.now))
    c.in_ok-add_span.ensures.reported in
    let marked = front_stands c.self.inside.config (pages_of c.self.inside.pages) m
    c.add_span.new.self c.size.result c.cost_of.result c.next_size-size.result c.top.result
    c.next_size-size.ensures.value
    (c.size.ensures.value ∙ ap (λ (p : PageView). p.size) c.front-former.ensures)
    c.cost_of.ensures (c.top.ensures.value ∙
    ap (λ (p : PageView). p.top) c.front-former.ensures)
    (put.stands (empty_page c.next_size-size.result c.top.result)
    c.in_ok-front.ensures.stands) in
    rotates_stacked _ (front_of c.evict-floor.new.self) (older_of c.evict-floor.new.self)
    drops.dropped (pages_of c.self.inside.pages) m c.self.invariant drops.parts
    (subst (λ (p : PageView). Represents p
    (front_marked c.self.inside.config (pages_of c.self.inside.pages) m)) (sym front_is) marked)

pub returns-clause-rotated : goal.returns-clause-rotated
returns-clause-rotated c =
    let m : Mark = record { span = c.args.span.now; value = c.args.value } in
    let drops = subst (λ ps. Drops c.self.inside.config c.self.inside.floor c.args.now ps
    (older_of c.evict-floor.new.self) c.evict-floor.result.0 c.evict-floor.result.1)
    c.in_ok-push_front.ensures.older c.evict-floor.ensures.dropped in
    let front_is = c.evict-floor.ensures.front ∙ c.in_ok-push_front.ensures.front in
    let put = put_on NoMemory _ c.in_ok-front.front c.add_span.new.self c.args.span.now c.args.value
    (fits_new c.in_ok-front.front c.args.span.now c.next_size-size.result c.cost_of.result
    c.self.inside.config.page_max c.cost_of.ensures c.next_size-size.ensures.enough
    (subst (λ (v : CacheView). nat_le (span_cost c.args.span.now) v.config.page_max ≡ true)
    (sym c.self.view_is) c.requires.fits) (c.in_ok-front.ensures.room c.args.span.now))
    c.in_ok-add_span.ensures.reported in
    let marked = front_stands c.self.inside.config (pages_of c.self.inside.pages) m
    c.add_span.new.self c.size.result c.cost_of.result c.next_size-size.result c.top.result
    c.next_size-size.ensures.value
    (c.size.ensures.value ∙ ap (λ (p : PageView). p.size) c.front-former.ensures)
    c.cost_of.ensures (c.top.ensures.value ∙
    ap (λ (p : PageView). p.top) c.front-former.ensures)
    (put.stands (empty_page c.next_size-size.result c.top.result)
    c.in_ok-front.ensures.stands) in
    let stands = subst (λ (p : PageView). Represents p
    (front_marked c.self.inside.config (pages_of c.self.inside.pages) m)) (sym front_is)
    marked in
    let turns : c.saturating_inc-self-inside.result ≡ saturating_inc c.self.inside.rotations =
    c.saturating_inc-self-inside.ensures in
    let new = the_view (record {
      config = c.self.inside.config;
      floor = c.evict-floor.result.0;
      pages = c.evict-floor.new.self;
      rotations = c.saturating_inc-self-inside.result;
    }) in
    let turned = rotates_with (the_view c.self.inside) new m c.args.now c.evict-floor.result.0
    c.evict-floor.result.1 (front_of c.evict-floor.new.self) (older_of c.evict-floor.new.self)
    drops stands refl refl turns in
    let counted = ap (λ (a : Added). a.evicted) c.after_rotation.ensures in (
      subst (λ v. RotatesWith v new m c.args.now c.after_rotation.result.evicted) c.self.view_is
          (subst (λ k. RotatesWith (the_view c.self.inside) new m c.args.now k) (sym counted)
          turned),
      c.after_rotation.ensures ∙ ap kept_after_rotation (sym counted),
    )

-- whatever a call answers, what holds anyway holds where it was refused
kept : {A E : Type 0} (r : Result A E) (P : Type 0) → P → OnErr r P
kept (Ok a) P p = tt
kept (Err e) P p = p

pub returns-in_err-push_front-clause-unchanged : goal.returns-in_err-push_front-clause-unchanged
returns-in_err-push_front-clause-unchanged c =
    kept _ _ (ap (λ ps. record {
      config = c.self.inside.config;
      floor = c.self.inside.floor;
      pages = ps;
      rotations = c.self.inside.rotations;
    }) c.in_err-push_front.ensures.unchanged ∙
    c.self.view_is)
