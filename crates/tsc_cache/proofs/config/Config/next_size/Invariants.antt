-- Proves the loop invariants of `Config::next_size`. The size of a page for a span of this cost,
-- behind a page of this size: the first doubling that is at least the cost.
use Rattle.tsc_cache.proofs.Sizes.{Doubling}
use Rattle.tsc_cache.proofs.config.Config.next_size.Given as goal

abbrev pub invariant-loop-times : goal.invariant-loop-times
invariant-loop-times l = Doubling l.fn.self.page_max l.fn.size l.fn.cost l.times l.next
