-- Proves the loop invariants of `earliest_write`. A time stands for the spans that were asked of.
use Rattle.timestamp_cache.specs.Earliest.{IsEarliest}
use Rattle.timestamp_cache.proofs.Earliest.{ClearOfFirst}
use Rattle.timestamp_cache.proofs.writes.earliest_write.Given as goal

abbrev pub invariant-loop-span : goal.invariant-loop-span
invariant-loop-span l = IsEarliest (λ t. ClearOfFirst l.cache l.spans l.span-index l.by t)
    l.fn.at l.time
