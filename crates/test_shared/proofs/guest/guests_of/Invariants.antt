-- Proves the loop invariants of `guests_of`. The seats that are left are of the cache.
use Rattle.std.proofs.Common.{◌≡◌, All}
use Rattle.test_shared.proofs.guest.guests_of.Given as goal

abbrev pub invariant-loop-seat : goal.invariant-loop-seat
invariant-loop-seat l = All (λ seat. seat.cache ≡ l.cache) l.seat-iterator.rest.items
