-- Proves the contract of `add_many`. What the marks make of the cache are steps of its states.
use Rattle.tsc_cache.proofs.AddsSeen.{all_stand, all_added}
use Rattle.tsc_shared.proofs.InPlace.{had_some}
use Rattle.tsc_shared.proofs.applying.add_many.Goals as goal

pub returns-clause-stands : goal.returns-clause-stands
returns-clause-stands c = all_stand c.args.cache.now c.add_fitting.new.self c.args.moment
    c.args.marks.now c.add_fitting.result c.add_fitting.ensures.seen

pub returns-clause-added : goal.returns-clause-added
returns-clause-added c = all_added c.args.cache.now c.add_fitting.new.self c.args.moment
    c.args.marks.now c.add_fitting.result c.add_fitting.ensures.seen

pub returns-clause-some : goal.returns-clause-some
returns-clause-some c = had_some c.args.cache.now c.add_fitting.new.self c.args.marks.now
    c.args.moment c.add_fitting.result c.add_fitting.ensures.seen c.add_fitting.ensures.left
