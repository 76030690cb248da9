-- Proves the loop invariants of `seats_of`. The seats in their order, by a type that shows whose
-- they are.
use Rattle.std.proofs.Common.{◌≡◌, ◌++◌, All}
use Rattle.std.specs.Prelude.{map}
use Rattle.example_lease_holder.specs.ReadSeats.{cache_of}
use Rattle.example_lease_holder.proofs.seats_of.Given as goal

-- Those so far, with the seats that are left, are all of them, and those are of the cache.
abbrev pub invariant-loop-seat : goal.invariant-loop-seat
invariant-loop-seat g l = record {
  all : map (λ one. one.seat) l.own.items ++ l.seat-iterator.rest.items ≡ l.fn.seats.items;
  left : All (λ seat. cache_of seat ≡ g.G.Range.cache) l.seat-iterator.rest.items;
}
