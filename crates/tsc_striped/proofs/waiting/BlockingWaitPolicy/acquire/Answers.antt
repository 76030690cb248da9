-- Proves the contract of `BlockingWaitPolicy::acquire`.
use Rattle.std.proofs.Common.{◌≡◌, ◌∷◌, subst}
use Rattle.tsc_stripe_table.specs.Rule.{StoredStripe}
use Rattle.tsc_stripe_table.specs.Steps.{At, Acquires}
use Rattle.tsc_striped.proofs.waiting.BlockingWaitPolicy.acquire.Goals as goal

pub returns-then-try_acquire-clause-acquired : goal.returns-then-try_acquire-clause-acquired
returns-then-try_acquire-clause-acquired g c _ =
    subst (λ (m : At). (x : StoredStripe)
    × Acquires m.0 c.try_acquire.new.who.me.0 c.args.stripe x.value.cache
    × (c.try_acquire.new.who.me.1 ≡ (c.args.stripe, x) ∷ m.1)) c.loop.invariant.5
    (c.try_acquire.ensures.acquired c.if-try_acquire.true)
