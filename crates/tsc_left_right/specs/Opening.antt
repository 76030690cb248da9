-- What lies in the slots when the table is made. (For private contracts.)
use Rattle.std.specs.Prelude.{◌≡◌, ℕ, ◌<◌, List, [], ◌∷◌, length, replicate}
use Rattle.std.specs.Arc.{arc_value}
use mathlib.Core.Option as maybe
use lib.ListN.{get_elem?}
use Rattle.tsc_left_right.specs.declared.replicated.Replicated.{Ghosts}
use Rattle.tsc_left_right.specs.declared.table.Slot.{Slot}
use Rattle.tsc_left_right.specs.declared.table.Slot.TheVariants.{Empty, Writer}
use Rattle.tsc_left_right.specs.declared.table.Setup.{Setup}
use Rattle.tsc_left_right.specs.declared.table.WriterState.{WriterState}
use Rattle.tsc_left_right.specs.Rule.{StoredState, IsAfter, side_slot, slot_count}
use Rattle.tsc_left_right.specs.Steps.{IsHandleOn}

module _ {C O : Type 0} where
  -- a slot with seven empty ones behind it
  abbrev pub line_of : Slot C O → List (Slot C O)
  line_of x = x ∷ replicate 7 Empty

  -- The writer's slot has this, and each seat has a handle on the active copy on side 0, and
  -- nothing on side 1.
  pub record HasFirstSlots (state : StoredState C O) (seats : ℕ) (slots : List (Slot C O)) : Type 0
    where
      pub deep : length slots ≡ slot_count seats
      pub writer : get_elem? slots 0 ≡ maybe.some (Writer state)
      pub active : (seat : ℕ) → seat < seats → (x : Slot C O)
          × (get_elem? slots (side_slot seat 0) ≡ maybe.some x)
          × IsHandleOn (arc_value state.value.copies.active) 0 x
      pub standby : (seat : ℕ) → seat < seats
          → get_elem? slots (side_slot seat 1) ≡ maybe.some Empty

-- the writer's state before the first operation
pub record IsFirst {P C O S E : Type 0} (R : Ghosts P C O S E) (setup : Setup S)
    (state : WriterState C O) : Type 0 where
  pub is_after : IsAfter R setup [] 0 state
  pub noted : length state.noted.items ≡ setup.seats
