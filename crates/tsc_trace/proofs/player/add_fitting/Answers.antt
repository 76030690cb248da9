-- What the Add makes of the cache is a step of its states, and the settings stay.
use Rattle.std.proofs.Common.{◌∙◌, sym, ap, [], ◌∷◌}
use Rattle.tsc_cache.specs.declared.added.Added.{Added}
use Rattle.tsc_cache.specs.State.{Stepped}
use Rattle.tsc_cache.specs.CacheView.{Adds, ReportsAdded, ReportsAddedAll}
use Rattle.tsc_cache.proofs.Steps.{one_mark_is_a_step}
use Rattle.tsc_cache.proofs.StatesSeen.{on_ok, if_ok}
use Rattle.tsc_cache.proofs.AddsSeen.{seen_stands, seen_added}
use Rattle.tsc_trace.proofs.player.add_fitting.Goals as goal

pub returns-clause-config : goal.returns-clause-config
returns-clause-config c = on_ok c.add_one_fitting.result
    (λ (added : Added). Adds c.args.cache.now c.add_one_fitting.new.self
    (record { span = c.args.span.now; value = c.args.value }) c.args.now added) _
    c.add_one_fitting.ensures.seen (λ added adds. adds.config)

pub returns-clause-stands : goal.returns-clause-stands
returns-clause-stands c = seen_stands c.args.cache.now c.add_one_fitting.new.self c.args.now
    (record { span = c.args.span.now; value = c.args.value }) c.add_one_fitting.result
    c.add_one_fitting.ensures.seen

pub returns-clause-added : goal.returns-clause-added
returns-clause-added c = if_ok c.add_one_fitting.result
    (ReportsAdded c.args.cache.now (record { span = c.args.span.now; value = c.args.value })
    c.args.now)
    (ReportsAddedAll c.args.cache.now
    (record { span = c.args.span.now; value = c.args.value } ∷ []) c.args.now)
    (seen_added c.args.cache.now c.add_one_fitting.new.self c.args.now
    (record { span = c.args.span.now; value = c.args.value }) c.add_one_fitting.result
    c.add_one_fitting.ensures.seen)
    (λ added reported config s stands. reported config s stands ∙
    ap (λ (x : Stepped). x.added) (sym (one_mark_is_a_step config s
    (record { span = c.args.span.now; value = c.args.value }) c.args.now)))
