-- What was dropped so far.
use Rattle.tsc_cache.specs.CacheParts.{older_of}
use Rattle.tsc_cache.proofs.Droppings.{Dropping}
use Rattle.std.proofs.Common.{◌≡◌, ◌-◌, length}
use Rattle.tsc_cache.proofs.page_stack.Pages.evict.Given as goal

abbrev pub invariant-loop-top : goal.invariant-loop-top
invariant-loop-top l = (l.self.front ≡ l.initial.self.front) ×
    Dropping l.config l.initial.floor l.now (older_of l.initial.self) (older_of l.self) l.floor
    (length (older_of l.initial.self) - length (older_of l.self))

abbrev pub decreases-loop-top : goal.decreases-loop-top
decreases-loop-top l = length (older_of l.self)
