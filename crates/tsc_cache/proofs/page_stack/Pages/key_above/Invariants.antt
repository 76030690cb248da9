-- What the pages told so far.
use Rattle.std.proofs.Common.{drop}
use Rattle.std.specs.Prelude.{option_map}
use Rattle.tsc_span.specs.Cuts.{cut_of}
use Rattle.tsc_cache.specs.CacheParts.{pages_of, older_of}
use Rattle.tsc_cache.proofs.KeysReported.{Asking}
use Rattle.tsc_cache.proofs.page_stack.Pages.key_above.Given as goal

abbrev pub invariant-loop-at : goal.invariant-loop-at
invariant-loop-at l = Asking (pages_of l.self) (drop l.at (older_of l.self)) (cut_of l.cut)
    (option_map (λ k. k.now) l.least)
