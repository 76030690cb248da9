-- One page after another.
use Rattle.std.proofs.Common.{◌≡◌, ◌∙◌, refl, ap, subst, List, [], ◌+◌, drop, length, arith}
use Rattle.std.proofs.Math.ListN.{drop_of_length-le}
use Rattle.tsc_page_model.specs.PageView.{PageView}
use Rattle.tsc_cache.specs.CacheParts.{pages_of, front_of, older_of}
use Rattle.tsc_chunks.proofs.FullChunks.{drop_next}
use Rattle.tsc_cache.proofs.CountsReported.{Counting, figures_so_far, with_page, counting-start, counting-more, counting-end}
use Rattle.tsc_cache.proofs.page_stack.Pages.figures.Goals as goal

pub loop-at-init : goal.loop-at-init
loop-at-init c =
    let first : c.with-figures.result ≡ with_page c.of_pages.result (front_of c.args.self.now) =
    c.with-figures.ensures ∙ ap (with_page c.of_pages.result) c.deref.ensures in
    let none : c.of_pages.result ≡ figures_so_far (length (pages_of c.args.self.now)) c.args.floor
    c.args.rotations [] = c.of_pages.ensures ∙
    ap (λ n. figures_so_far n c.args.floor c.args.rotations []) c.len.ensures in
    counting-start (front_of c.args.self.now) (older_of c.args.self.now) c.args.floor
    c.args.rotations c.of_pages.result c.with-figures.result none first

pub loop-at-preserved : goal.loop-at-preserved
loop-at-preserved c =
    let older = older_of c.args.self.now in
    let page = c.get-page.result.now in
    let low = c.loop-at-test.true in
    let all = c.len-at-end.ensures.value in
    let here = drop_next c.loop-at.at older page (omega arith) c.get-page.ensures in
    let so_far = subst (λ (ps : List PageView). Counting (pages_of c.args.self.now) ps c.args.floor
    c.args.rotations c.loop-at.figures) here c.loop-at.invariant in
    counting-more (pages_of c.args.self.now) page (drop (c.loop-at.at + 1) older) c.args.floor
    c.args.rotations c.loop-at.figures c.with-figures-in-loop-at.result so_far
    c.with-figures-in-loop-at.ensures

pub returns : goal.returns
returns c =
    let older = older_of c.args.self.now in
    let past = c.loop-at-test.false in
    let all = c.len-at-end.ensures.value in
    let none : drop c.loop-at.at older ≡ [] = drop_of_length-le older (omega arith) in
    counting-end (λ p. p) (pages_of c.args.self.now) [] c.args.floor c.args.rotations
    c.loop-at.figures refl
    (subst (λ (ps : List PageView). Counting (pages_of c.args.self.now) ps c.args.floor
    c.args.rotations c.loop-at.figures) none c.loop-at.invariant)
