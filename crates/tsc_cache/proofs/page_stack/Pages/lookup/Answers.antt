-- One page after another, until a top is too low.
use Rattle.std.proofs.Common.{◌≡◌, ◌∙◌, sym, ap, subst, [], ◌∷◌, ◌+◌, List, drop, length, true, false, arith}
use Rattle.std.proofs.lemmas.List.{length-append}
use Rattle.tsc_time.specs.Time.{is_before}
use Rattle.tsc_time.specs.Joint.{joint}
use Rattle.tsc_time.specs.ValueView.{ValueView}
use Rattle.tsc_page_model.specs.PageView.{PageView, answer}
use Rattle.tsc_cache.specs.CacheParts.{pages_of, front_of, older_of}
use Rattle.tsc_chunks.proofs.FullChunks.{drop_next}
use Rattle.tsc_cache.proofs.Lookings.{Looking, looking-start, looking-more, looking-stop}
use Rattle.tsc_cache.proofs.page_stack.Pages.lookup.Goals as goal

pub loop-at-init : goal.loop-at-init
loop-at-init c =
    let first = looking-start (front_of c.args.self.now) (older_of c.args.self.now)
    c.args.span.now in
    let best : c.lookup_ref-best.result ≡ answer (front_of c.args.self.now) c.args.span.now =
    c.lookup_ref-best.ensures.value ∙
    ap (λ (p : PageView). answer p c.args.span.now) c.deref.ensures in
    subst (λ (v : ValueView). Looking (pages_of c.args.self.now) (older_of c.args.self.now)
    c.args.span.now v 1) (sym best) first

pub returns-then-is_passed-clause-value : goal.returns-then-is_passed-clause-value
returns-then-is_passed-clause-value c =
    let older = older_of c.args.self.now in
    let page = c.get-page.result.now in
    let below = c.loop-at-test.true in
    let all = c.len-at-end.ensures.value in
    let here = drop_next c.loop-at.at older page (omega arith) c.get-page.ensures in
    let so_far = subst (λ (ps : List PageView). Looking (pages_of c.args.self.now) ps
    c.args.span.now c.loop-at.best c.loop-at.looked) here c.loop-at.invariant in
    let low : is_before page.top c.loop-at.best.time ≡ true = sym c.is_passed.ensures ∙
    c.if-is_passed.true in
    (looking-stop (pages_of c.args.self.now) page (drop (c.loop-at.at + 1) older) c.args.span.now
    c.loop-at.best c.loop-at.looked c.requires.stacked so_far low).0

pub overflow_add-looked : goal.overflow_add-looked
overflow_add-looked c =
    let older = older_of c.args.self.now in
    let below = c.loop-at-test.true in
    let all = c.len-at-end.ensures.value in
    let here = drop_next c.loop-at.at older c.get-page.result.now (omega arith)
    c.get-page.ensures in
    let parts = ap length c.loop-at.invariant.parts in
    let left = ap length here in
    let into = length-append c.loop-at.invariant.into (drop c.loop-at.at older) in
    let count = c.loop-at.invariant.count in
    let small = c.len-at-end.ensures.small in
    omega arith

pub loop-at-preserved : goal.loop-at-preserved
loop-at-preserved c =
    let older = older_of c.args.self.now in
    let page = c.get-page.result.now in
    let span = c.args.span.now in
    let below = c.loop-at-test.true in
    let all = c.len-at-end.ensures.value in
    let here = drop_next c.loop-at.at older page (omega arith) c.get-page.ensures in
    let so_far = subst (λ (ps : List PageView). Looking (pages_of c.args.self.now) ps span
    c.loop-at.best c.loop-at.looked) here c.loop-at.invariant in
    let high : is_before page.top c.loop-at.best.time ≡ false = sym c.is_passed.ensures ∙
    c.if-is_passed.false in
    let more = looking-more (pages_of c.args.self.now) page (drop (c.loop-at.at + 1) older) span
    c.loop-at.best c.loop-at.looked so_far high in
    let joined : c.ratchet-best.result.0 ≡ joint c.loop-at.best (answer page span ∷ []) =
    c.ratchet-best.ensures.joint ∙
    ap (λ (v : ValueView). joint c.loop-at.best (v ∷ [])) c.lookup_ref.ensures.value in
    subst (λ (v : ValueView). Looking (pages_of c.args.self.now) (drop (c.loop-at.at + 1) older)
    span v (c.loop-at.looked + 1)) (sym joined) more
