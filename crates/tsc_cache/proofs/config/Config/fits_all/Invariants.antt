-- All fit where those that are left do.
use Rattle.std.proofs.Common.{◌≡◌, drop}
use Rattle.tsc_cache.specs.Batch.{all_fit}
use Rattle.tsc_cache.proofs.config.Config.fits_all.Given as goal

abbrev pub invariant-loop-mark : goal.invariant-loop-mark
invariant-loop-mark l = all_fit l.self (drop l.mark-index l.marks) ≡ all_fit l.self l.marks
