-- One mark after another is added.
use Rattle.std.proofs.Common.{◌∙◌, ◌+◌, sym, ap, subst, arith}
use Rattle.tsc_page_model.specs.Page.{Mark}
use Rattle.tsc_cache.specs.declared.added.Added.{Added}
use Rattle.tsc_cache.specs.ConfigView.{fits}
use Rattle.tsc_cache.specs.CacheView.{Adds}
use Rattle.tsc_cache.proofs.Batches.{IsUnderWay, begun, next_fits, few_dropped, one_more, all_added}
use Rattle.tsc_cache.proofs.plain_cache.PlainCache.add_each_until_refused.Goals as goal

pub loop-mark-init : goal.loop-mark-init
loop-mark-init c = begun c.args.self.now c.args.marks.now c.args.now c.nothing-added.result
    c.requires.fits c.nothing-added.ensures

pub add_one_fitting-requires : goal.add_one_fitting-requires
add_one_fitting-requires c =
    let next = next_fits c.args.self.now c.loop-mark.self c.args.marks.now c.args.now
    c.loop-mark.added c.loop-mark.mark-index c.mark-item.result c.loop-mark.invariant
    c.loop-mark-test.true (sym c.mark-item.is) in
    record { fits = ap (λ (m : Mark). fits c.loop-mark.self.config m.span) c.mark.view_is ∙ next }

pub with-added-requires : goal.with-added-requires
with-added-requires c =
    let adds = subst (λ (m : Mark). Adds c.loop-mark.self c.add_one_fitting.new.self m c.args.now
    c.in_ok-add_one_fitting.field-0) c.mark.view_is c.in_ok-add_one_fitting.ensures.seen in
    let dropped = few_dropped c.args.self.now c.loop-mark.self c.add_one_fitting.new.self
    c.args.marks.now c.args.now c.loop-mark.added c.in_ok-add_one_fitting.field-0
    c.loop-mark.mark-index c.mark-item.result c.loop-mark.invariant c.loop-mark-test.true
    adds in
    let few = c.requires.few in
    record { few = omega arith }

pub loop-mark-preserved : goal.loop-mark-preserved
loop-mark-preserved c =
    let adds = subst (λ (m : Mark). Adds c.loop-mark.self c.add_one_fitting.new.self m c.args.now
    c.in_ok-add_one_fitting.field-0) c.mark.view_is c.in_ok-add_one_fitting.ensures.seen in
    subst (λ (a : Added). IsUnderWay c.args.self.now c.add_one_fitting.new.self c.args.marks.now
    c.args.now a (c.loop-mark.mark-index + 1)) (sym c.with-added.ensures)
    (one_more c.args.self.now c.loop-mark.self c.add_one_fitting.new.self c.args.marks.now c.args.now
    c.loop-mark.added c.in_ok-add_one_fitting.field-0 c.loop-mark.mark-index c.mark-item.result
    c.loop-mark.invariant c.loop-mark-test.true (sym c.mark-item.is) adds)

pub returns : goal.returns
returns c = all_added c.args.self.now c.loop-mark.self c.args.marks.now c.args.now c.loop-mark.added
    c.loop-mark.mark-index c.loop-mark.invariant (omega arith)
