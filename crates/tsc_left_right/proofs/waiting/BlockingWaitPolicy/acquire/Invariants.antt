-- Proves the loop invariants of `BlockingWaitPolicy::acquire`. Acquires the writer lock, once it is
-- free.
use Rattle.std.proofs.Common.{◌≡◌}
use Rattle.tsc_left_right.proofs.waiting.BlockingWaitPolicy.acquire.Given as goal

abbrev pub invariant-loop : goal.invariant-loop
invariant-loop g l =
    (goal.iterator-loop g).can_next l.iterator' × (goal.iterator-loop g).is_finite l.iterator'
    × (l.shared ≡ l.fn.shared) × (l.number ≡ l.fn.number) × (l.who.table_id ≡ l.fn.who.table_id)
    × (l.who.me ≡ l.fn.who.me)
