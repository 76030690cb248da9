-- All marks fit if those fit that were not met yet.
use Rattle.std.proofs.Common.{◌≡◌, drop}
use Rattle.tsc_cache.specs.Batch.{all_fit}
use Rattle.tsc_striped.proofs.adding.fit_all.Given as goal

abbrev pub invariant-loop-mark : goal.invariant-loop-mark
invariant-loop-mark l =
    all_fit l.fn.config (drop l.mark-index l.fn.marks) ≡ all_fit l.fn.config l.fn.marks
