-- Proves the loop invariants of `BoundedWaitPolicy::look_over`.
use Rattle.std.proofs.Common.{◌≡◌}
use Rattle.tsc_striped.proofs.waiting.BoundedWaitPolicy.look_over.Given as goal

abbrev pub invariant-loop : goal.invariant-loop
invariant-loop l =
    (l.self ≡ l.fn.self) × (l.end ≡ l.fn.self.0) × (l.shared ≡ l.fn.shared)
    × (l.span ≡ l.fn.span) × (l.first ≡ l.fn.first) × (l.last ≡ l.fn.last)
    × (l.who.table_id ≡ l.fn.who.table_id)
    × (l.who.me ≡ l.fn.who.me)
