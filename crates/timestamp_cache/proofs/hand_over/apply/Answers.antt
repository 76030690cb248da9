-- Where no mark is kept nothing changes, and else all that is told is added at once.
use Rattle.std.proofs.Common.{◌≡◌, subst, List, false, IfOk, OnOk, rules}
use Rattle.tsc_page_model.specs.Page.{Mark}
use Rattle.tsc_cache.specs.declared.added.Added.{Added}
use Rattle.tsc_cache.specs.ConfigView.{ConfigView}
use Rattle.tsc_cache.specs.State.{CacheState, step_all, not_kept}
use Rattle.tsc_cache.specs.CacheView.{RepresentsState, StandsAfterAll, ReportsAddedAll}
use Rattle.tsc_cache.specs.Batch.{is_any_kept}
use Rattle.tsc_cache.proofs.Batches.{none_adds, adds_all_stands}
use Rattle.tsc_cache.proofs.AddsSeen.{all_stand, all_added}
use Rattle.timestamp_cache.specs.HandOver.{marks_reported}
use Rattle.timestamp_cache.proofs.TakingOver.{takes_over, where_ok}
use Rattle.timestamp_cache.proofs.hand_over.apply.Goals as goal

pub returns-then-not-is_any_kept-clause-seen : goal.returns-then-not-is_any_kept-clause-seen
returns-then-not-is_any_kept-clause-seen c =
    let none : is_any_kept c.args.cache.now.floor (marks_reported c.args.summary.now) ≡ false =
    search rules in
    none_adds c.args.cache.now (marks_reported c.args.summary.now) c.args.now none

pub returns-then-not-is_any_kept-clause-stands : goal.returns-then-not-is_any_kept-clause-stands
returns-then-not-is_any_kept-clause-stands c config s stands =
    (adds_all_stands c.args.cache.now c.args.cache.now (marks_reported c.args.summary.now)
    c.args.now not_kept (returns-then-not-is_any_kept-clause-seen c) config s stands).0

pub returns-then-not-is_any_kept-clause-added : goal.returns-then-not-is_any_kept-clause-added
returns-then-not-is_any_kept-clause-added c config s stands =
    (adds_all_stands c.args.cache.now c.args.cache.now (marks_reported c.args.summary.now)
    c.args.now not_kept (returns-then-not-is_any_kept-clause-seen c) config s stands).1

pub returns-then-not-is_any_kept-clause-takes_over :
    goal.returns-then-not-is_any_kept-clause-takes_over
returns-then-not-is_any_kept-clause-takes_over c config s stands =
    takes_over config s c.args.summary.now c.args.now

pub returns-clause-takes_over : goal.returns-clause-takes_over
returns-clause-takes_over c = where_ok c.add_all.result _
    (λ config s stands. takes_over config s c.args.summary.now c.args.now)

pub returns-clause-stands : goal.returns-clause-stands
returns-clause-stands c =
    let all : c.deref.result.now ≡ marks_reported c.args.summary.now = search rules in
    subst (λ (ms : List Mark). OnOk c.add_all.result
    (StandsAfterAll c.args.cache.now c.add_all.new.self ms c.args.now)) all
    (all_stand c.args.cache.now c.add_all.new.self c.args.now c.deref.result.now c.add_all.result
    c.add_all.ensures.seen)

pub returns-clause-added : goal.returns-clause-added
returns-clause-added c =
    let all : c.deref.result.now ≡ marks_reported c.args.summary.now = search rules in
    subst (λ (ms : List Mark). IfOk c.add_all.result
    (ReportsAddedAll c.args.cache.now ms c.args.now)) all
    (all_added c.args.cache.now c.add_all.new.self c.args.now c.deref.result.now c.add_all.result
    c.add_all.ensures.seen)
