-- Proves the loop invariants of `BlockingWaitPolicy::acquire`. Acquires the lock of a stripe, once
-- it is free.
use Rattle.std.proofs.Common.{◌≡◌}
use Rattle.tsc_striped.proofs.waiting.BlockingWaitPolicy.acquire.Given as goal

abbrev pub invariant-loop : goal.invariant-loop
invariant-loop g l =
    (goal.iterator-loop g).can_next l.iterator' × (goal.iterator-loop g).is_finite l.iterator'
    × (l.shared ≡ l.fn.shared) × (l.stripe ≡ l.fn.stripe)
    × (l.who.table_id ≡ l.fn.who.table_id)
    × (l.who.me ≡ l.fn.who.me)
