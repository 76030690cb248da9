-- What can be seen of the front page decides.
use Rattle.std.proofs.Common.{◌≡◌, ◌∙◌, sym, ap, Bool, true, ◌&&◌, not}
use Rattle.tsc_page_model.specs.Page.{Mark}
use Rattle.tsc_cache.specs.State.{is_kept}
use Rattle.tsc_cache.specs.CacheView.{CacheView, front_has_room_for}
use Rattle.tsc_cache.proofs.StatesSeen.{rotates_as_seen}
use Rattle.tsc_cache.proofs.cache.Cache.would_rotate.Goals as goal

pub returns-then-keeps-clause-stands : goal.returns-then-keeps-clause-stands
returns-then-keeps-clause-stands c config s now stands =
    let m : Mark = record { span = c.args.span.now; value = c.args.value } in
    let kept : is_kept c.args.self.now.floor m ≡ true = sym c.keeps.ensures ∙ c.if-keeps.true in
    ap (λ (b : Bool). not b) (c.has_room.ensures ∙
    ap (λ (v : CacheView). front_has_room_for v.pages c.args.span.now) c.self.view_is)
    ∙ ap (λ (b : Bool). b && not (front_has_room_for c.args.self.now.pages c.args.span.now))
    (sym kept)
    ∙ rotates_as_seen c.args.self.now config s m now stands
