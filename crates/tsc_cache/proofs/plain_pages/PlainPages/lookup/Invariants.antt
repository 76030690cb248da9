-- What the pages so far answer.
use Rattle.std.proofs.Common.{◌≡◌, ◌∷◌, take}
use Rattle.tsc_cache.specs.Stacks.{pages_answer}
use Rattle.tsc_cache.proofs.plain_pages.PlainPages.lookup.Given as goal

abbrev pub invariant-loop-page : goal.invariant-loop-page
invariant-loop-page l = l.best ≡ pages_answer
    (l.self.front ∷ take l.page-index l.self.older.items) l.span
