-- Proves the contract of `add`. What the Add makes of the cache is a step of its states.
use Rattle.tsc_cache.proofs.AddsSeen.{adds_are_steps}
use Rattle.mvcc_range.proofs.range.add.Goals as goal

pub returns-clause-stands : goal.returns-clause-stands
returns-clause-stands c = adds_are_steps.stands c.args.cache.now c.add_one_fitting.new.self
    (record { span = c.args.span.now; value = c.args.value }) c.args.now
    c.in_ok-add_one_fitting.field-0 c.in_ok-add_one_fitting.ensures.seen
