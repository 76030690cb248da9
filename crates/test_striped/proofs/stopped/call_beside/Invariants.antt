-- Proves the loop invariants of `call_beside`. The seat stays at its cache.
use Rattle.std.proofs.Common.{◌≡◌}
use Rattle.test_striped.proofs.stopped.call_beside.Given as goal

abbrev pub invariant-loop : goal.invariant-loop
invariant-loop g l = l.seat.cache ≡ l.striped
