-- Proves the contract of `BlockingWaitPolicy::share_over`.
use Rattle.std.proofs.Common.{subst}
use Rattle.tsc_stripe_table.specs.Steps.{At}
use Rattle.tsc_striped.specs.Moves.{HasLooked}
use Rattle.tsc_striped.specs.Sharing.{AreCopies}
use Rattle.tsc_striped.proofs.waiting.BlockingWaitPolicy.share_over.Goals as goal

pub returns-in-Ok-clause-shared : goal.returns-in-Ok-clause-shared
returns-in-Ok-clause-shared g c =
    subst (λ (m : At). HasLooked m c.share_under_all.new.who.me (λ h. AreCopies m.0.setup h
    c.args.first c.args.last c.in-Ok.copies.items))
    c.loop.invariant.7 c.in-Ok.ensures.shared
