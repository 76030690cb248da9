-- Which marks were added so far, and that the others fit. Where none is kept nothing changed.
use Rattle.std.proofs.Common.{◌≡◌, false}
use Rattle.tsc_cache.specs.Batch.{is_any_kept}
use Rattle.tsc_cache.proofs.Batches.{IsUnderWay}
use Rattle.tsc_cache.proofs.cache.Cache.add_fitting.Given as goal

abbrev pub invariant-loop-mark : goal.invariant-loop-mark
invariant-loop-mark l = IsUnderWay l.initial.self l.self l.marks l.now l.added l.mark-index ×
    (is_any_kept l.initial.self.floor l.marks ≡ false → l.self ≡ l.initial.self)
