-- One mark or several are added as the list of them.
use Rattle.std.proofs.Common.{sym, subst, List}
use Rattle.tsc_page_model.specs.Page.{Mark}
use Rattle.tsc_cache.specs.ConfigView.{ConfigView}
use Rattle.tsc_cache.specs.State.{CacheState, step_all}
use Rattle.tsc_cache.specs.CacheView.{RepresentsState}
use Rattle.tsc_shared.specs.declared.adds.MarkList.{MarkList}
use Rattle.tsc_shared.specs.Applying.{IfMade}
use Rattle.tsc_shared.proofs.applying.add_up_to_date.Goals as goal
use Rattle.tsc_shared.specs.Caches.{marks_in}

pub returns-in-One-clause-stands : goal.returns-in-One-clause-stands
returns-in-One-clause-stands c = subst (λ (x : MarkList). IfMade c.add_one_in_place.result
    (λ added. (config : ConfigView) (s : CacheState) → RepresentsState c.args.cache.now config s →
    RepresentsState c.add_one_in_place.new.cache config
    (step_all config s (marks_in x) c.args.add.now.moment).state)) (sym c.in-One.is)
    c.add_one_in_place.ensures.stands

pub returns-in-Many-clause-stands : goal.returns-in-Many-clause-stands
returns-in-Many-clause-stands c =
    subst (λ (x : MarkList). IfMade c.add_many_in_place.result
    (λ added. (config : ConfigView) (s : CacheState) →
    RepresentsState c.args.cache.now config s →
    RepresentsState c.add_many_in_place.new.cache config
    (step_all config s (marks_in x) c.args.add.now.moment).state)) (sym c.in-Many.is)
    (subst (λ (ms : List Mark). IfMade c.add_many_in_place.result
    (λ added. (config : ConfigView) (s : CacheState) →
    RepresentsState c.args.cache.now config s →
    RepresentsState c.add_many_in_place.new.cache config
    (step_all config s ms c.args.add.now.moment).state)) c.deref.ensures.value
    c.add_many_in_place.ensures.stands)
