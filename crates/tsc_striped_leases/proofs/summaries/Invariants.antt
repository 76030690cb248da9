-- The summaries so far, and which stripe is the next.
use Rattle.std.proofs.Common.{drop}
use Rattle.tsc_striped_leases.proofs.Leases.{AreSummed}
use Rattle.tsc_striped_leases.proofs.summaries.Given as goal

abbrev pub invariant-loop-copy : goal.invariant-loop-copy
invariant-loop-copy l = AreSummed l.fn.cache.terms.bounds l.fn.span l.fn.most l.fn.snapshot.first
    l.copy-items (drop l.copy-index l.copy-items) l.reported.items l.stripe
