-- Which marks were added so far, and that the others fit.
use Rattle.tsc_cache.proofs.Batches.{IsUnderWay}
use Rattle.tsc_cache.proofs.plain_cache.PlainCache.add_each_until_refused.Given as goal

abbrev pub invariant-loop-mark : goal.invariant-loop-mark
invariant-loop-mark l = IsUnderWay l.initial.self l.self l.marks l.now l.added l.mark-index
