-- Proves the loop invariants of `BoundedWaitPolicy::acquire`. Acquires the writer lock, once it is
-- free.
use Rattle.std.proofs.Common.{◌≡◌}
use Rattle.tsc_left_right.proofs.waiting.BoundedWaitPolicy.acquire.Given as goal

abbrev pub invariant-loop : goal.invariant-loop
invariant-loop g l =
    (l.self ≡ l.fn.self) × (l.end ≡ l.fn.self.0) × (l.shared ≡ l.fn.shared)
    × (l.number ≡ l.fn.number) × (l.who.table_id ≡ l.fn.who.table_id) × (l.who.me ≡ l.fn.who.me)
