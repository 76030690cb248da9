-- Proves the loop invariants of `first_slots`. What lies in the slots at the opening.
use Rattle.tsc_left_right.specs.Opening.{HasFirstSlots}
use Rattle.tsc_left_right.proofs.opening.first_slots.Given as goal

abbrev pub invariant-loop-seat : goal.invariant-loop-seat
invariant-loop-seat g l = HasFirstSlots l.fn.state l.seat l.slots.items
