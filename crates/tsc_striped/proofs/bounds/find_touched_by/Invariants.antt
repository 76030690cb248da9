-- Nothing of the marks that were met lies below the first stripe so far, or above the last one.
use Rattle.std.proofs.Common.{◌≤◌, length, take}
use Rattle.tsc_striped.specs.Cutting.{LieWithin}
use Rattle.tsc_striped.proofs.bounds.find_touched_by.Given as goal

abbrev pub invariant-loop-mark : goal.invariant-loop-mark
invariant-loop-mark l =
    (l.last ≤ length l.fn.bounds)
    × LieWithin l.fn.bounds (take l.mark-index l.fn.marks) l.first l.last
