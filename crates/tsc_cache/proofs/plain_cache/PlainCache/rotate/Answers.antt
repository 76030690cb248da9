-- A new page in front, and the pages behind it that stay.
use Rattle.std.proofs.Common.{◌≡◌, ◌∙◌, refl, sym, ap, subst}
use Rattle.tsc_page_model.specs.Page.{Mark, empty_page}
use Rattle.tsc_page_model.specs.PageView.{PageView, Represents}
use Rattle.tsc_cache.specs.Rotation.{RotatesWith, front_marked, saturating_inc}
use Rattle.tsc_cache.specs.declared.added.Added.{Added}
use Rattle.tsc_cache.specs.contracts.plain_cache.PlainCache.{the_view}
use Rattle.tsc_cache.specs.State.{kept_after_rotation}
use Rattle.tsc_cache.specs.CacheParts.{plain_front_of, plain_older_of, plain_pages_of}
use Rattle.tsc_cache.specs.Stacks.{Drops}
use Rattle.tsc_cache.proofs.StatesSeen.{front_stands, rotates_with}
use Rattle.tsc_cache.proofs.plain_cache.PlainCache.rotate.Goals as goal

pub returns-clause-rotated : goal.returns-clause-rotated
returns-clause-rotated c =
    let m : Mark = record { span = c.args.span.now; value = c.args.value } in
    let drops = subst (λ ps. Drops c.self.inside.config c.self.inside.floor c.args.now ps
    (plain_older_of c.evict-floor.new.self) c.evict-floor.result.0 c.evict-floor.result.1)
    c.in_ok-push_front.ensures.older c.evict-floor.ensures.dropped in
    let front_is = c.evict-floor.ensures.front ∙ c.in_ok-push_front.ensures.front in
    let marked = front_stands c.self.inside.config (plain_pages_of c.self.inside.pages) m
    c.add.new.self c.size.result c.cost.result c.next_size-size.result c.top.result
    c.next_size-size.ensures.value
    (c.size.ensures.value ∙ ap (λ (p : PageView). p.size) c.front-former.ensures)
    c.cost.ensures.value (c.top.ensures.value ∙
    ap (λ (p : PageView). p.top) c.front-former.ensures)
    (c.in_ok-add.ensures.reported.stands (empty_page c.next_size-size.result c.top.result)
    c.in_ok-front.ensures.stands) in
    let stands = subst (λ (p : PageView). Represents p
    (front_marked c.self.inside.config (plain_pages_of c.self.inside.pages) m)) (sym front_is)
    marked in
    let turns : c.saturating_inc-self-inside.result ≡ saturating_inc c.self.inside.rotations =
    c.saturating_inc-self-inside.ensures in
    let new = the_view (record {
      config = c.self.inside.config;
      floor = c.evict-floor.result.0;
      pages = c.evict-floor.new.self;
      rotations = c.saturating_inc-self-inside.result;
    }) in
    let turned = rotates_with (the_view c.self.inside) new m c.args.now c.evict-floor.result.0
    c.evict-floor.result.1 (plain_front_of c.evict-floor.new.self)
    (plain_older_of c.evict-floor.new.self) drops stands refl refl turns in
    let counted = ap (λ (a : Added). a.evicted) c.after_rotation.ensures in (
      subst (λ v. RotatesWith v new m c.args.now c.after_rotation.result.evicted) c.self.view_is
          (subst (λ k. RotatesWith (the_view c.self.inside) new m c.args.now k) (sym counted)
          turned),
      c.after_rotation.ensures ∙ ap kept_after_rotation (sym counted),
    )
