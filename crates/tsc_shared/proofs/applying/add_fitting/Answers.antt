-- Proves the contract of `add_fitting`. The marks of the Add are those of its slice.
use Rattle.std.proofs.Common.{◌≡◌, true, sym, subst, List, OnOk, IfOk}
use Rattle.tsc_page_model.specs.Page.{Mark}
use Rattle.tsc_cache.specs.Batch.{all_fit}
use Rattle.tsc_cache.specs.CacheView.{StandsAfterAll, ReportsAddedAll}
use Rattle.tsc_shared.specs.Applying.{HasHadSome}
use Rattle.tsc_shared.proofs.applying.add_fitting.Goals as goal

pub add_many-requires : goal.add_many-requires
add_many-requires c = record {
  fits = subst (λ (ms : List Mark). all_fit c.args.cache.now.config ms ≡ true)
      (sym c.as_slice.ensures) c.requires.fits;
}

pub returns-clause-stands : goal.returns-clause-stands
returns-clause-stands c = subst (λ (ms : List Mark). OnOk c.add_many.result
    (StandsAfterAll c.args.cache.now c.add_many.new.cache ms c.args.add.now.moment))
    c.as_slice.ensures c.add_many.ensures.stands

pub returns-clause-added : goal.returns-clause-added
returns-clause-added c = subst (λ (ms : List Mark). IfOk c.add_many.result
    (ReportsAddedAll c.args.cache.now ms c.args.add.now.moment)) c.as_slice.ensures
    c.add_many.ensures.added

pub returns-clause-some : goal.returns-clause-some
returns-clause-some c = subst (λ (ms : List Mark). HasHadSome c.args.cache.now
    c.add_many.new.cache ms c.args.add.now.moment) c.as_slice.ensures c.add_many.ensures.some
