-- Proves the contract of `add_all`. What the marks make of the cache are steps of its states.
use Rattle.tsc_cache.proofs.AddsSeen.{adds_are_steps}
use Rattle.mvcc_range.proofs.range.add_all.Goals as goal

pub returns-clause-stands : goal.returns-clause-stands
returns-clause-stands c = adds_are_steps.all_stand c.args.cache.now c.add_all_fitting.new.self
    c.args.marks.now c.args.now c.in_ok-add_all_fitting.field-0 c.in_ok-add_all_fitting.ensures.seen
