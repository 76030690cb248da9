-- Where no mark is kept nothing changes.
use Rattle.std.proofs.Common.{rules, ◌≡◌, ◌∙◌, ◌↔◌, refl, sym, ap, subst, false}
use Rattle.std.specs.Prelude.{IsErrOf, Ok, Result}
use Rattle.tsc_cache.specs.declared.added.Added.{Added}
use Rattle.tsc_cache.specs.declared.fault.CacheFault.{CacheFault}
use Rattle.tsc_cache.specs.declared.fault.CacheFault.TheVariants.{TooLarge}
use Rattle.tsc_cache.specs.CacheView.{CacheView}
use Rattle.tsc_cache.specs.Batch.{all_fit, is_any_kept, AddsAll}
use Rattle.tsc_cache.proofs.Batches.{none_adds}
use Rattle.tsc_cache.proofs.plain_cache.PlainCacheTimestampCache.add_all.Goals as goal

pub returns-then-not-is_any_kept : goal.returns-then-not-is_any_kept
returns-then-not-is_any_kept c =
    let none : is_any_kept c.args.self.now.floor c.args.marks.now ≡ false =
    ap (λ (v : CacheView). is_any_kept v.floor c.args.marks.now) (sym c.self.view_is) ∙
    sym c.if-not-is_any_kept.ensures in
    let made : Result Added CacheFault = Ok c.nothing.result in
    let large : IsErrOf made TooLarge ↔
    (all_fit c.args.self.now.config c.args.marks.now ≡ false) = search rules in
    record {
      seen = subst (λ (a : Added). AddsAll c.args.self.now c.args.self.now c.args.marks.now
          c.args.now a) (sym c.nothing.ensures)
          (none_adds c.args.self.now c.args.marks.now c.args.now none);
      too_large = large;
      unchanged = tt;
      memory = λ _ _. refl;
    }
