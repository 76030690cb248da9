-- Proves the contract of `new_stripes`. The stripes at the opening.
use Rattle.std.proofs.Common.{◌∙◌, ap, arith, length}
use Rattle.std.proofs.lemmas.List.{length_push}
use Rattle.tsc_stripe_table.proofs.Openings.{opened_none, opened_more}
use Rattle.tsc_stripe_table.proofs.opening.new_stripes.Goals as goal

pub loop-stripe-init : goal.loop-stripe-init
loop-stripe-init c = (
  ap length c.in_ok-all.ensures.items,
  opened_none c.args.setup.now c.in_ok-all.all.items c.in_ok-all.ensures.items,
)

pub loop-stripe-preserved : goal.loop-stripe-preserved
loop-stripe-preserved c = (
  omega (
    arith,
    ap length c.in_ok-push.ensures.items,
    length_push c.loop-stripe.all.items c.in_ok-stripe.stripe,
    c.loop-stripe.invariant.0,
  ),
  opened_more c.args.setup.now c.loop-stripe.all.items c.push.new.self.items
      c.in_ok-stripe.stripe c.loop-stripe.invariant.1 c.in_ok-push.ensures.items
      c.in_ok-stripe.ensures,
)

pub returns-clause-count : goal.returns-clause-count
returns-clause-count c = omega (
  arith,
  c.loop-stripe.invariant.0,
  c.loop-stripe.auto._stripe-end,
  c.loop-stripe-test.false,
)

pub returns-clause-opened : goal.returns-clause-opened
returns-clause-opened c = c.loop-stripe.invariant.1
