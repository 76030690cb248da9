-- Proves the contract of `next_fitting`. The marks of the Add are those of its slice, and what they
-- make of the cache are steps of its states.
use Rattle.std.proofs.Common.{◌≡◌, true, sym, subst, List, IfOk}
use Rattle.tsc_page_model.specs.Page.{Mark}
use Rattle.tsc_cache.specs.declared.added.Added.{Added}
use Rattle.tsc_cache.specs.Batch.{all_fit, AddsAll}
use Rattle.tsc_cache.specs.CacheView.{CacheView, StandsAfterAll, ReportsAddedAll}
use Rattle.tsc_cache.proofs.StatesSeen.{if_ok}
use Rattle.tsc_cache.proofs.AddsSeen.{adds_are_steps}
use Rattle.tsc_shared.proofs.applying.next_fitting.Goals as goal

pub next_fitting-requires : goal.next_fitting-requires
next_fitting-requires c = record {
  fits = subst (λ (ms : List Mark). all_fit c.args.cache.now.config ms ≡ true)
      (sym c.as_slice.ensures) c.requires.fits;
}

pub returns-clause-stands : goal.returns-clause-stands
returns-clause-stands c =
    let old : CacheView = c.args.cache.now in
    let ms : List Mark = c.as_slice.result.now in
    subst (λ (ns : List Mark). IfOk c.next_fitting.result
    (λ (next : CacheView × Added). StandsAfterAll old next.0 ns c.args.add.now.moment))
    c.as_slice.ensures
    (if_ok c.next_fitting.result
    (λ (next : CacheView × Added). AddsAll old next.0 ms c.args.add.now.moment next.1)
    (λ (next : CacheView × Added). StandsAfterAll old next.0 ms c.args.add.now.moment)
    c.next_fitting.ensures
    (λ next adds. adds_are_steps.all_stand old next.0 ms c.args.add.now.moment next.1 adds))

pub returns-clause-added : goal.returns-clause-added
returns-clause-added c =
    let old : CacheView = c.args.cache.now in
    let ms : List Mark = c.as_slice.result.now in
    subst (λ (ns : List Mark). IfOk c.next_fitting.result
    (λ (next : CacheView × Added). ReportsAddedAll old ns c.args.add.now.moment next.1))
    c.as_slice.ensures
    (if_ok c.next_fitting.result
    (λ (next : CacheView × Added). AddsAll old next.0 ms c.args.add.now.moment next.1)
    (λ (next : CacheView × Added). ReportsAddedAll old ms c.args.add.now.moment next.1)
    c.next_fitting.ensures
    (λ next adds. adds_are_steps.all_answer old next.0 ms c.args.add.now.moment next.1 adds))
