-- Proves the loop invariants of `BlockingWaitPolicy::share_over`.
use Rattle.std.proofs.Common.{◌≡◌}
use Rattle.tsc_striped.proofs.waiting.BlockingWaitPolicy.share_over.Given as goal

abbrev pub invariant-loop : goal.invariant-loop
invariant-loop g l =
    (goal.iterator-loop g).can_next l.iterator' × (goal.iterator-loop g).is_finite l.iterator'
    × (l.self ≡ l.fn.self) × (l.shared ≡ l.fn.shared)
    × (l.first ≡ l.fn.first) × (l.last ≡ l.fn.last)
    × (l.who.table_id ≡ l.fn.who.table_id)
    × (l.who.me ≡ l.fn.who.me)
