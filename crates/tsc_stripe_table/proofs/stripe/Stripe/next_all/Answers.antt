-- Proves the contract of `Stripe::next_all`. What the marks make of the cache are steps of its
-- states.
use Rattle.tsc_cache.proofs.AddsSeen.{adds_are_steps}
use Rattle.tsc_stripe_table.proofs.stripe.Stripe.next_all.Goals as goal

pub returns-clause-stands : goal.returns-clause-stands
returns-clause-stands c =
    adds_are_steps.all_stand c.args.self.now.cache c.in_ok-next.next c.args.marks.now c.args.now
    c.in_ok-next.added c.in_ok-next.ensures

pub returns-clause-added : goal.returns-clause-added
returns-clause-added c =
    adds_are_steps.all_answer c.args.self.now.cache c.in_ok-next.next c.args.marks.now c.args.now
    c.in_ok-next.added c.in_ok-next.ensures
