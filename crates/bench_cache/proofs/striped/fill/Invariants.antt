-- Proves the loop invariants of `fill`. Adds the keys of a page from the least on, and tells
-- whether that was done.
use Rattle.std.proofs.Common.{◌≡◌}
use Rattle.bench_cache.proofs.striped.fill.Given as goal

abbrev pub invariant-loop-place : goal.invariant-loop-place
invariant-loop-place g l = l.seat.cache ≡ l.striped
