-- What was looked into so far.
use Rattle.std.proofs.Common.{drop}
use Rattle.tsc_cache.specs.CacheParts.{pages_of, older_of}
use Rattle.tsc_cache.proofs.Lookings.{Looking}
use Rattle.tsc_cache.proofs.page_stack.Pages.lookup.Given as goal

abbrev pub invariant-loop-at : goal.invariant-loop-at
invariant-loop-at l = Looking (pages_of l.self) (drop l.at (older_of l.self)) l.span l.best l.looked
