-- Proves the loop invariants of `deal_all`. Each seat that was dealt so far is of the cache.
use Rattle.std.proofs.Common.{◌≡◌}
use Rattle.std.specs.Prelude.{All}
use Rattle.bench_cache.proofs.striped.deal_all.Given as goal

abbrev pub invariant-loop : goal.invariant-loop
invariant-loop l = (l.dealer.cache ≡ l.striped)
    × All (λ seat. seat.cache ≡ l.striped) l.seats.items
