-- One page more.
use Rattle.std.proofs.Common.{◌≡◌, ◌∙◌, sym, ap, subst, [], ◌∷◌, ◌++◌, take, length, ◌<◌, get_or, List}
use Rattle.std.proofs.lemmas.List.{take_more}
use Rattle.tsc_time.specs.ValueView.{ValueView}
use Rattle.tsc_time.specs.Joint.{joint}
use Rattle.tsc_page_model.specs.PageView.{PageView}
use Rattle.tsc_cache.specs.Stacks.{pages_answer}
use Rattle.tsc_cache.proofs.Lookings.{answers-push}
use Rattle.tsc_cache.proofs.plain_pages.PlainPages.lookup.Goals as goal

pub loop-page-preserved : goal.loop-page-preserved
loop-page-preserved c =
    let older : List PageView = c.args.self.now.older.items in
    let span = c.args.span.now in
    let within : c.loop-page.page-index < length older =
    subst (λ (ps : List PageView). c.loop-page.page-index < length ps)
    c.deref-page-items.ensures.value c.loop-page-test.true in
    let at : get_or older c.loop-page.page-index c.page-item.result ≡ c.page-item.result =
    ap (λ (ps : List PageView). get_or ps c.loop-page.page-index c.page-item.result)
    (sym c.deref-page-items.ensures.value) ∙ sym c.page-item.is in
    let more = take_more older c.loop-page.page-index c.page-item.result within ∙
    ap (λ (p : PageView). take c.loop-page.page-index older ++ p ∷ []) at in
    c.ratchet-best.ensures.joint
    ∙ ap (λ (v : ValueView). joint v (c.lookup.result ∷ [])) c.loop-page.invariant
    ∙ ap (λ (v : ValueView). joint
    (pages_answer (c.args.self.now.front ∷ take c.loop-page.page-index older) span) (v ∷ []))
    c.lookup.ensures.value
    ∙ sym (answers-push (c.args.self.now.front ∷ take c.loop-page.page-index older)
    c.page-item.result span)
    ∙ ap (λ ps. pages_answer (c.args.self.now.front ∷ ps) span) (sym more)
