-- Proves the contract of `BoundedWaitPolicy::share_over`.
use Rattle.std.proofs.Common.{subst}
use Rattle.tsc_stripe_table.specs.Steps.{At}
use Rattle.tsc_striped.specs.Moves.{HasLooked}
use Rattle.tsc_striped.specs.Sharing.{AreCopies}
use Rattle.tsc_striped.proofs.waiting.BoundedWaitPolicy.share_over.Goals as goal

pub returns-in-Ok-clause-shared : goal.returns-in-Ok-clause-shared
returns-in-Ok-clause-shared c =
    subst (λ (m : At). HasLooked m c.share_under_all.new.who.me (λ h. AreCopies m.0.setup h
    c.args.first c.args.last c.in-Ok.copies.items))
    c.loop.invariant.6 c.in-Ok.ensures.shared
