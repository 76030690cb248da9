-- As many marks are copied as were met.
use Rattle.std.proofs.Common.{◌≡◌, take}
use Rattle.tsc_shared.proofs.copies.copy_of_all.Given as goal

abbrev pub invariant-loop-mark : goal.invariant-loop-mark
invariant-loop-mark l = l.copies.items ≡ take l.mark-index l.marks
