-- What lies of the marks that were met is there.
use Rattle.std.proofs.Common.{◌≡◌, take}
use Rattle.tsc_stripe_table.specs.Stripes.{marks_in}
use Rattle.tsc_striped.proofs.pieces.pieces_in.Given as goal

abbrev pub invariant-loop-mark : goal.invariant-loop-mark
invariant-loop-mark l =
    l.pieces.items ≡ marks_in l.fn.bounds l.fn.stripe (take l.mark-index l.fn.marks)
