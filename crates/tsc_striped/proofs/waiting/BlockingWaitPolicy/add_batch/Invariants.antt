-- Proves the loop invariants of `BlockingWaitPolicy::add_batch`.
use Rattle.std.proofs.Common.{◌≡◌}
use Rattle.tsc_striped.proofs.waiting.BlockingWaitPolicy.add_batch.Given as goal

abbrev pub invariant-loop : goal.invariant-loop
invariant-loop g l =
    (goal.iterator-loop g).can_next l.iterator' × (goal.iterator-loop g).is_finite l.iterator'
    × (l.self ≡ l.fn.self) × (l.shared ≡ l.fn.shared) × (l.batch ≡ l.fn.batch)
    × (l.who.table_id ≡ l.fn.who.table_id)
    × (l.who.me ≡ l.fn.who.me) × (l.notice ≡ l.fn.notice)
