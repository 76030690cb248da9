-- Proves the loop invariants of `acquire`. Acquires the lock once it is free.
use Rattle.std.proofs.Common.{◌≡◌}
use Rattle.mvcc_shared.proofs.locking.acquire.Given as goal

abbrev pub invariant-loop : goal.invariant-loop
invariant-loop g l =
    (goal.iterator-loop g).can_next l.iterator' × (goal.iterator-loop g).is_finite l.iterator'
    × (l.shared ≡ l.fn.shared) × (l.who.table_id ≡ l.fn.who.table_id)
    × (l.who.me ≡ l.fn.who.me)
