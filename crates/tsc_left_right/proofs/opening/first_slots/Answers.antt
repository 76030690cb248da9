-- Proves the contract of `first_slots`. What lies in the slots at the opening.
use Rattle.std.proofs.Common.{◌∙◌, ap, refl}
use Rattle.std.specs.Arc.{arc_value}
use Rattle.tsc_left_right.proofs.FirstSlots.{first_slots_more, first_slots_all}
use Rattle.tsc_left_right.proofs.opening.first_slots.Goals as goal

pub loop-seat-preserved : goal.loop-seat-preserved
loop-seat-preserved g c =
    first_slots_more c.args.state c.loop-seat.seat c.loop-seat.slots.items
    c.push_line-in-loop-seat.new.slots.items c.push_line-in-loop-seat-2.new.slots.items
    _ c.loop-seat.invariant c.in_ok-push_line-2.ensures c.in_ok-push_line-3.ensures (
      c.in_ok-copy.ensures ∙ c.in_ok-active.ensures
          ∙ ap (λ d. arc_value d.copies.active) c.deref.ensures,
      refl,
    )

pub returns : goal.returns
returns g c = first_slots_all c.args.state c.loop-seat.seat c.args.seats c.loop-seat.slots.items
    c.loop-seat.auto.seat-end c.loop-seat-test.false c.loop-seat.invariant
