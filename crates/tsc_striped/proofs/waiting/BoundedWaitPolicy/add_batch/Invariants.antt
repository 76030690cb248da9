-- Proves the loop invariants of `BoundedWaitPolicy::add_batch`.
use Rattle.std.proofs.Common.{◌≡◌}
use Rattle.tsc_striped.proofs.waiting.BoundedWaitPolicy.add_batch.Given as goal

abbrev pub invariant-loop : goal.invariant-loop
invariant-loop g l =
    (l.self ≡ l.fn.self) × (l.end ≡ l.fn.self.0) × (l.shared ≡ l.fn.shared)
    × (l.batch ≡ l.fn.batch)
    × (l.who.table_id ≡ l.fn.who.table_id)
    × (l.who.me ≡ l.fn.who.me) × (l.notice ≡ l.fn.notice)
