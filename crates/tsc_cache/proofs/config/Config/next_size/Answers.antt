-- One doubling after another.
use Rattle.std.proofs.Common.{arith}
use Rattle.std.proofs.lemmas.Bool.{le-leb, lt-leb}
use Rattle.tsc_cache.proofs.Sizes.{doubling-none, doubling-enough, doubling-more}
use Rattle.tsc_cache.proofs.config.Config.next_size.Goals as goal

pub loop-times-init : goal.loop-times-init
loop-times-init c = doubling-none c.args.self.now.page_max c.args.size c.args.cost

pub loop-times-preserved : goal.loop-times-preserved
loop-times-preserved c =
    doubling-more c.args.self.now.page_max c.args.size c.args.cost c.loop-times.times
    c.loop-times.next c.doubled-next.result
    c.loop-times.invariant c.loop-times-test.true c.doubled-next.ensures.value
    (lt-leb c.args.cost c.doubled-next.result (omega arith)) c.doubled-next.ensures.least

pub returns-then-cost-next-clause-value : goal.returns-then-cost-next-clause-value
returns-then-cost-next-clause-value c =
    doubling-enough c.args.self.now.page_max c.args.size c.args.cost c.loop-times.times
    c.loop-times.next c.doubled-next.result
    c.loop-times.invariant c.loop-times-test.true c.doubled-next.ensures.value
    (le-leb c.args.cost c.doubled-next.result (omega arith))

pub returns-then-cost-next-clause-least : goal.returns-then-cost-next-clause-least
returns-then-cost-next-clause-least c least =
    c.doubled-next.ensures.least (c.loop-times.invariant.least least)

pub returns-then-cost-next-clause-enough : goal.returns-then-cost-next-clause-enough
returns-then-cost-next-clause-enough c within = omega arith
