-- Proves the contract of `BoundedWaitPolicy::look_over`.
use Rattle.std.proofs.Common.{◌≡◌, ◌-◌, subst}
use Rattle.tsc_stripe_table.specs.Steps.{At}
use Rattle.tsc_striped.specs.Looks.{look_from}
use Rattle.tsc_striped.specs.Moves.{HasLooked}
use Rattle.tsc_striped.proofs.waiting.BoundedWaitPolicy.look_over.Goals as goal

pub returns-in-Ok-clause-looked : goal.returns-in-Ok-clause-looked
returns-in-Ok-clause-looked c =
    subst (λ (m : At). HasLooked m c.look_under_all.new.who.me (λ h. c.in-Ok.value
    ≡ look_from m.0.setup h c.args.span.now c.args.first (c.args.last - c.args.first)))
    c.loop.invariant.7 c.in-Ok.ensures.looked
