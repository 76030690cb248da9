-- What was dropped so far.
use Rattle.std.proofs.Common.{◌≡◌, vec_len}
use Rattle.tsc_cache.specs.CacheParts.{plain_older_of}
use Rattle.tsc_cache.proofs.Droppings.{Dropping}
use Rattle.tsc_cache.proofs.plain_pages.PlainPages.evict.Given as goal

abbrev pub invariant-loop-top : goal.invariant-loop-top
invariant-loop-top l = (l.self.front ≡ l.initial.self.front) ×
    Dropping l.config l.initial.raised l.now (plain_older_of l.initial.self) (plain_older_of l.self)
    l.raised l.evicted

abbrev pub decreases-loop-top : goal.decreases-loop-top
decreases-loop-top l = vec_len l.self.older
