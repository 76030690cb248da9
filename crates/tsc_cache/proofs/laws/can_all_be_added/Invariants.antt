-- Which of the marks can be made, where all fit.
use Rattle.std.proofs.Common.{◌≡◌, true}
use Rattle.tsc_cache.specs.Batch.{all_fit}
use Rattle.tsc_cache.proofs.Batches.{CanBeMade}
use Rattle.tsc_cache.proofs.laws.can_all_be_added.Given as goal

abbrev pub invariant-loop-mark : goal.invariant-loop-mark
invariant-loop-mark l = all_fit l.config l.marks ≡ true → CanBeMade l.config l.marks l.mark-index
