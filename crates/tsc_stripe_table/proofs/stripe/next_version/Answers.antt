-- Proves the contract of `next_version`. What the Add makes of the cache is a step of its states.
use Rattle.tsc_page_model.specs.Page.{Mark}
use Rattle.tsc_cache.proofs.AddsSeen.{adds_are_steps}
use Rattle.tsc_stripe_table.proofs.stripe.next_version.Goals as goal

pub returns-clause-stands : goal.returns-clause-stands
returns-clause-stands c =
    let m : Mark = record { span = c.args.span.now; value = c.args.value } in
    adds_are_steps.stands c.args.cache.now c.in_ok-next.next m c.args.now c.in_ok-next.added
    c.in_ok-next.ensures

pub returns-clause-added : goal.returns-clause-added
returns-clause-added c =
    let m : Mark = record { span = c.args.span.now; value = c.args.value } in
    adds_are_steps.answers c.args.cache.now c.in_ok-next.next m c.args.now c.in_ok-next.added
    c.in_ok-next.ensures
