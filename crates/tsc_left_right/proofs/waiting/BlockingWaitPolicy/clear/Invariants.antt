-- Proves the loop invariants of `BlockingWaitPolicy::clear`. Takes the slot of the next seat on the
-- standby side, once that seat has left it.
use Rattle.std.proofs.Common.{◌≡◌}
use Rattle.tsc_left_right.proofs.waiting.BlockingWaitPolicy.clear.Given as goal

abbrev pub invariant-loop : goal.invariant-loop
invariant-loop g l =
    (goal.iterator-loop g).can_next l.iterator' × (goal.iterator-loop g).is_finite l.iterator'
    × (l.shared ≡ l.fn.shared) × (l.seat ≡ l.fn.seat) × (l.standby ≡ l.fn.standby)
    × (l.noted ≡ l.fn.noted) × (l.who.table_id ≡ l.fn.who.table_id) × (l.who.me ≡ l.fn.who.me)
