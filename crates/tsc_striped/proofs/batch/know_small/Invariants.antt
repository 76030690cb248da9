-- All marks are small if those are that were not met yet.
use Rattle.std.proofs.Common.{◌≡◌, drop}
use Rattle.tsc_striped.specs.Sizes.{are_small}
use Rattle.tsc_striped.proofs.batch.know_small.Given as goal

abbrev pub invariant-loop-mark : goal.invariant-loop-mark
invariant-loop-mark l = are_small (drop l.mark-index l.fn.marks) ≡ are_small l.fn.marks
