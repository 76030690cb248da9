-- One page more is dropped.
use Rattle.std.proofs.Common.{◌≡◌, ◌∙◌, sym, ap, subst, ◌+◌, ◌-◌, ◌∷◌, ◌++◌, [], List, take, length, arith}
use Rattle.std.proofs.lemmas.List.{length_push}
use Rattle.std.proofs.Math.Seq.{take-append_seam}
use Rattle.tsc_page_model.specs.PageView.{PageView}
use Rattle.tsc_cache.specs.CacheParts.{older_of}
use Rattle.tsc_cache.specs.Stacks.{IsDroppedTop}
use Rattle.tsc_cache.proofs.Droppings.{Dropping, dropping-more, dropped_count}
use Rattle.tsc_cache.proofs.page_stack.Pages.evict.Goals as goal

-- all but the last of a list
but_last : (ps newer : List PageView) (p : PageView) → ps ≡ newer ++ p ∷ [] →
    ps ≡ take (length ps - 1) ps ++ p ∷ []
but_last ps newer p is =
    let long = ap length is ∙ length_push newer p in
    let all : take (length ps - 1) ps ≡ newer = ap (λ n. take n ps) (omega arith) ∙
    ap (take (length newer)) is ∙ take-append_seam newer (p ∷ []) in
    is ∙ ap (λ qs. qs ++ p ∷ []) (sym all)

pub loop-top-preserved : goal.loop-top-preserved
loop-top-preserved c =
    let all = older_of c.args.self.now in
    let ps = older_of c.loop-top.self in
    let found = subst (IsDroppedTop c.args.config.now c.args.now ps) c.in-Some.is
    c.dropped_top.ensures in
    let left = but_last ps found.0 found.1 found.2 ∙
    ap (λ qs. qs ++ found.1 ∷ []) (sym c.pop_back.ensures.left) in
    let had = dropped_count c.args.config.now c.args.floor c.args.now all ps c.loop-top.floor
    (length all - length ps) c.loop-top.invariant.1 in
    let one = ap length left ∙ length_push c.pop_back.new.self found.1 in
    let more : (length all - length ps) + 1 ≡ length all - length c.pop_back.new.self =
    omega arith in (
      c.loop-top.invariant.0,
      subst (Dropping c.args.config.now c.args.floor c.args.now all c.pop_back.new.self
          c.max-floor.result) more
          (dropping-more c.args.config.now c.args.floor c.args.now all ps c.pop_back.new.self
          found.1 c.loop-top.floor c.in-Some.top c.max-floor.result (length all - length ps)
          c.loop-top.invariant.1 c.max-floor.ensures left found),
    )
