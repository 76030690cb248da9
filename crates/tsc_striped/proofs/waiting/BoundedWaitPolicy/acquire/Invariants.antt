-- Proves the loop invariants of `BoundedWaitPolicy::acquire`. Acquires the lock of a stripe, once
-- it is free.
use Rattle.std.proofs.Common.{◌≡◌}
use Rattle.tsc_striped.proofs.waiting.BoundedWaitPolicy.acquire.Given as goal

abbrev pub invariant-loop : goal.invariant-loop
invariant-loop l =
    (l.self ≡ l.fn.self) × (l.end ≡ l.fn.self.0) × (l.shared ≡ l.fn.shared)
    × (l.stripe ≡ l.fn.stripe)
    × (l.who.table_id ≡ l.fn.who.table_id)
    × (l.who.me ≡ l.fn.who.me)
