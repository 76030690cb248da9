-- Where no mark is kept nothing changes.
use Rattle.std.proofs.Common.{◌≡◌, ◌∙◌, sym, ap, subst, false}
use Rattle.tsc_cache.specs.declared.added.Added.{Added}
use Rattle.tsc_cache.specs.CacheView.{CacheView}
use Rattle.tsc_cache.specs.Batch.{is_any_kept, AddsAll}
use Rattle.tsc_cache.proofs.Batches.{none_adds}
use Rattle.tsc_cache.proofs.cache.Cache.add_all_fitting.Goals as goal

pub returns-then-not-is_any_kept-clause-seen : goal.returns-then-not-is_any_kept-clause-seen
returns-then-not-is_any_kept-clause-seen c =
    let none : is_any_kept c.args.self.now.floor c.args.marks.now ≡ false =
    ap (λ (v : CacheView). is_any_kept v.floor c.args.marks.now) (sym c.self.view_is) ∙
    sym c.if-not-is_any_kept.ensures in
    subst (λ (a : Added). AddsAll c.args.self.now c.args.self.now c.args.marks.now c.args.now a)
    (sym c.nothing.ensures) (none_adds c.args.self.now c.args.marks.now c.args.now none)
