-- Proves the contract of `acquire`. Acquires the lock once it is free.
use Rattle.std.proofs.Common.{subst}
use Rattle.mvcc_shared.specs.Steps.{At, Acquires}
use Rattle.mvcc_shared.proofs.locking.acquire.Goals as goal

pub returns-then-try_acquire-clause-acquired : goal.returns-then-try_acquire-clause-acquired
returns-then-try_acquire-clause-acquired g c =
    let got = c.try_acquire.ensures.acquired c.if-try_acquire.true in (
      got.0,
      subst (λ (m : At). Acquires m c.try_acquire.new.who.me got.0) c.loop.invariant.4 got.1,
    )
