-- Proves the loop invariants of `seats_of_copies`. The seats so far, and those that are left, are of
-- the cache.
use Rattle.std.proofs.Common.{◌≡◌, All}
use Rattle.example_lease_holder.specs.declared.reads.ReadCache.TheVariants.{Copies}
use Rattle.example_lease_holder.specs.ReadSeats.{cache_of}
use Rattle.example_lease_holder.proofs.reads.seats_of_copies.Given as goal

abbrev pub invariant-loop-seat : goal.invariant-loop-seat
invariant-loop-seat l = All (λ seat. cache_of seat ≡ Copies l.cache) l.seats.items
    × All (λ seat. seat.cache ≡ l.cache) l.seat-iterator.rest.items
