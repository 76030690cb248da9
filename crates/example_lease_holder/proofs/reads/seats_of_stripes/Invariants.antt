-- Proves the loop invariants of `seats_of_stripes`. Each seat that was dealt so far is of the cache.
use Rattle.std.proofs.Common.{◌≡◌, All}
use Rattle.example_lease_holder.specs.declared.reads.ReadCache.TheVariants.{Stripes}
use Rattle.example_lease_holder.specs.ReadSeats.{cache_of}
use Rattle.example_lease_holder.proofs.reads.seats_of_stripes.Given as goal

abbrev pub invariant-loop : goal.invariant-loop
invariant-loop l = (l.dealer.cache ≡ l.cache)
    × All (λ seat. cache_of seat ≡ Stripes l.cache) l.seats.items
