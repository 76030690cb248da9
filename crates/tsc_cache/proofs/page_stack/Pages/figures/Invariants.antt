-- What is counted so far.
use Rattle.std.proofs.Common.{drop}
use Rattle.tsc_cache.specs.CacheParts.{pages_of, older_of}
use Rattle.tsc_cache.proofs.CountsReported.{Counting}
use Rattle.tsc_cache.proofs.page_stack.Pages.figures.Given as goal

abbrev pub invariant-loop-at : goal.invariant-loop-at
invariant-loop-at l = Counting (pages_of l.self) (drop l.at (older_of l.self)) l.fn.floor
    l.fn.rotations l.figures
