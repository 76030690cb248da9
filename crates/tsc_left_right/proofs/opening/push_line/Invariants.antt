-- Proves the loop invariants of `push_line`. Lays one more, and seven empty slots behind it.
use Rattle.std.proofs.Common.{◌≡◌, ◌++◌, ◌∷◌, replicate}
use Rattle.tsc_left_right.specs.declared.table.Slot.TheVariants.{Empty}
use Rattle.tsc_left_right.proofs.opening.push_line.Given as goal

abbrev pub invariant-loop-beside : goal.invariant-loop-beside
invariant-loop-beside g l = l.slots.items ≡ l.fn.slots.items ++ l.fn.slot ∷ replicate l._beside
    Empty
