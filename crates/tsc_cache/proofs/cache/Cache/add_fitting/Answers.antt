-- One mark after another is added.
use Rattle.std.proofs.Common.{◌≡◌, ◌∙◌, ◌+◌, refl, sym, ap, subst, length, false, true, arith}
use Rattle.tsc_page_model.specs.Page.{Mark}
use Rattle.tsc_cache.specs.declared.added.Added.{Added}
use Rattle.tsc_cache.specs.ConfigView.{fits}
use Rattle.tsc_cache.specs.State.{is_kept}
use Rattle.tsc_cache.specs.CacheView.{CacheView, Adds}
use Rattle.tsc_cache.specs.CacheParts.{pages_of}
use Rattle.tsc_cache.proofs.Batches.{IsUnderWay, begun, next_fits, few_dropped, one_more, none_kept, still_none, all_added}
use Rattle.tsc_cache.proofs.cache.Cache.add_fitting.Goals as goal

pub loop-mark-init : goal.loop-mark-init
loop-mark-init c = (
  begun c.args.self.now c.args.marks.now c.args.now c.nothing-added.result c.requires.fits
      c.nothing-added.ensures,
  λ _. refl,
)

pub add_one_fitting-requires : goal.add_one_fitting-requires
add_one_fitting-requires c =
    let next = next_fits c.args.self.now c.loop-mark.self c.args.marks.now c.args.now
    c.loop-mark.added c.loop-mark.mark-index c.mark-item.result c.loop-mark.invariant.0
    c.loop-mark-test.true (sym c.mark-item.is) in
    record { fits = ap (λ (m : Mark). fits c.loop-mark.self.config m.span) c.mark.view_is ∙ next }

pub with-added-requires : goal.with-added-requires
with-added-requires c =
    let adds = subst (λ (m : Mark). Adds c.loop-mark.self c.add_one_fitting.new.self m c.args.now
    c.in_ok-add_one_fitting.field-0) c.mark.view_is c.in_ok-add_one_fitting.ensures.seen in
    let dropped = few_dropped c.args.self.now c.loop-mark.self c.add_one_fitting.new.self
    c.args.marks.now c.args.now c.loop-mark.added c.in_ok-add_one_fitting.field-0
    c.loop-mark.mark-index c.mark-item.result c.loop-mark.invariant.0 c.loop-mark-test.true
    adds in
    let old : length (pages_of c.self.inside.pages) ≡ length c.args.self.now.pages =
    ap (λ (v : CacheView). length v.pages) c.self.view_is in
    let few = c.self.inside.pages.few in
    record { few = omega arith }

pub loop-mark-preserved : goal.loop-mark-preserved
loop-mark-preserved c =
    let adds = subst (λ (m : Mark). Adds c.loop-mark.self c.add_one_fitting.new.self m c.args.now
    c.in_ok-add_one_fitting.field-0) c.mark.view_is c.in_ok-add_one_fitting.ensures.seen in
    let way = subst (λ (a : Added). IsUnderWay c.args.self.now c.add_one_fitting.new.self
    c.args.marks.now c.args.now a (c.loop-mark.mark-index + 1)) (sym c.with-added.ensures)
    (one_more c.args.self.now c.loop-mark.self c.add_one_fitting.new.self c.args.marks.now
    c.args.now c.loop-mark.added c.in_ok-add_one_fitting.field-0 c.loop-mark.mark-index
    c.mark-item.result c.loop-mark.invariant.0 c.loop-mark-test.true (sym c.mark-item.is) adds) in (
      way,
      still_none c.args.self.now c.loop-mark.self c.add_one_fitting.new.self c.args.marks.now
          c.args.now c.in_ok-add_one_fitting.field-0 c.loop-mark.mark-index c.mark-item.result
          c.loop-mark.invariant.1 c.loop-mark-test.true (sym c.mark-item.is) adds,
    )

pub returns-in_err-add_one_fitting-clause-memory : goal.returns-in_err-add_one_fitting-clause-memory
returns-in_err-add_one_fitting-clause-memory c none =
    let lost = none_kept c.args.self.now c.loop-mark.self c.args.marks.now c.loop-mark.mark-index
    c.mark-item.result c.loop-mark.invariant.1 c.loop-mark-test.true (sym c.mark-item.is) none in
    let refused : false ≡ true = c.in_err-add_one_fitting.ensures.memory
    (ap (λ (m : Mark). is_kept c.loop-mark.self.floor m) c.mark.view_is ∙ lost) in cc

pub returns-clause-seen : goal.returns-clause-seen
returns-clause-seen c = all_added c.args.self.now c.loop-mark.self c.args.marks.now c.args.now
    c.loop-mark.added c.loop-mark.mark-index c.loop-mark.invariant.0 (omega arith)
