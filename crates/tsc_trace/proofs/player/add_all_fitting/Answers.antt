-- What the marks make of the cache are steps of its states, and the settings stay through each.
use Rattle.tsc_cache.proofs.Batches.{config_stays}
use Rattle.tsc_cache.proofs.AddsSeen.{all_stand, all_added}
use Rattle.tsc_cache.proofs.StatesSeen.{on_ok}
use Rattle.tsc_cache.specs.declared.added.Added.{Added}
use Rattle.tsc_cache.specs.Batch.{AddsAll}
use Rattle.tsc_trace.proofs.player.add_all_fitting.Goals as goal

pub returns-clause-config : goal.returns-clause-config
returns-clause-config c = on_ok c.add_all_fitting.result
    (λ (added : Added). AddsAll c.args.cache.now c.add_all_fitting.new.self c.args.marks.now
    c.args.now added) _ c.add_all_fitting.ensures.seen
    (λ added adds. config_stays c.args.cache.now c.add_all_fitting.new.self c.args.marks.now
    c.args.now added adds)

pub returns-clause-stands : goal.returns-clause-stands
returns-clause-stands c = all_stand c.args.cache.now c.add_all_fitting.new.self c.args.now
    c.args.marks.now c.add_all_fitting.result c.add_all_fitting.ensures.seen

pub returns-clause-added : goal.returns-clause-added
returns-clause-added c = all_added c.args.cache.now c.add_all_fitting.new.self c.args.now
    c.args.marks.now c.add_all_fitting.result c.add_all_fitting.ensures.seen
