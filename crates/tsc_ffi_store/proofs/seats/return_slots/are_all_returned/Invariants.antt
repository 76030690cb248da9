-- What the keeper knows is how many were counted.
use Rattle.std.proofs.Common.{◌≡◌, [], ◌≤◌, ◌-◌}
use Rattle.tsc_ffi_store.specs.ReturnSlots.{keeping}
use Rattle.tsc_ffi_store.proofs.seats.return_slots.are_all_returned.Given as goal

abbrev pub invariant-loop-returned : goal.invariant-loop-returned
invariant-loop-returned l = (l.keeper.table_id ≡ l.initial.keeper.table_id) ×
    (l.keeper.me ≡ (
      keeping l.fn.slots.key l.seats l.returned l.initial.keeper.me.0.back
          l.initial.keeper.me.0.missed,
      [],
    )) × (l.returned ≤ l.seats)

abbrev pub decreases-loop-returned : goal.decreases-loop-returned
decreases-loop-returned l = l.seats - l.returned
