-- One page after another.
use Rattle.std.proofs.Common.{◌≡◌, refl, sym, subst, [], ◌+◌, drop, List, arith}
use Rattle.std.proofs.Math.ListN.{drop_of_length-le}
use Rattle.std.specs.Prelude.{Option, option_map}
use Rattle.tsc_span.specs.Span.{KeyBytes, Cut}
use Rattle.tsc_span.specs.Cuts.{cut_of}
use Rattle.tsc_page_model.specs.PageView.{PageView}
use Rattle.tsc_page_model.specs.KeysAbove.{IsLeastAbove}
use Rattle.tsc_cache.specs.CacheParts.{pages_of, front_of, older_of}
use Rattle.tsc_chunks.proofs.FullChunks.{drop_next}
use Rattle.tsc_cache.proofs.KeysReported.{Asking, asking-start, asking-more, asking-end}
use Rattle.tsc_cache.proofs.page_stack.Pages.key_above.Goals as goal

pub loop-at-init : goal.loop-at-init
loop-at-init c =
    let cut : Cut = cut_of c.args.cut in
    let reported : Option KeyBytes = option_map (λ k. k.now) c.key_above-least.result in
    let first = subst (λ (p : PageView). IsLeastAbove cut p.keys reported) c.deref.ensures
    c.key_above-least.ensures.value in
    asking-start (front_of c.args.self.now) (older_of c.args.self.now) cut reported first

pub loop-at-preserved : goal.loop-at-preserved
loop-at-preserved c =
    let cut : Cut = cut_of c.args.cut in
    let older = older_of c.args.self.now in
    let page = c.get-page.result.now in
    let so_far : Option KeyBytes = option_map (λ k. k.now) c.loop-at.least in
    let more : Option KeyBytes = option_map (λ k. k.now) c.key_above.result in
    let low = c.loop-at-test.true in
    let all = c.len-at-end.ensures.value in
    let here = drop_next c.loop-at.at older page (omega arith) c.get-page.ensures in
    let asked = subst (λ (ps : List PageView). Asking (pages_of c.args.self.now) ps cut so_far) here
    c.loop-at.invariant in
    subst (Asking (pages_of c.args.self.now) (drop (c.loop-at.at + 1) older) cut)
    (sym c.lesser-least.ensures)
    (asking-more (pages_of c.args.self.now) page (drop (c.loop-at.at + 1) older) cut so_far more
    asked c.key_above.ensures.value)

pub returns : goal.returns
returns c =
    let cut : Cut = cut_of c.args.cut in
    let older = older_of c.args.self.now in
    let reported : Option KeyBytes = option_map (λ k. k.now) c.loop-at.least in
    let past = c.loop-at-test.false in
    let all = c.len-at-end.ensures.value in
    let none : drop c.loop-at.at older ≡ [] = drop_of_length-le older (omega arith) in
    asking-end (λ p. p) (pages_of c.args.self.now) [] cut reported refl
    (subst (λ (ps : List PageView). Asking (pages_of c.args.self.now) ps cut reported) none
    c.loop-at.invariant)
