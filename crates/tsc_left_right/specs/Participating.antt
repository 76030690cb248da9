-- A participant, and what it has in hand: what the functions that read and write ask for, and
-- leave.
use Rattle.std.specs.Prelude.{◌≡◌, ◌<◌, ◌≤◌, ℕ, ◌+◌, length, List, [], ◌∷◌, true, false}
use Rattle.std.specs.Prelude.{Option, Some, None}
use Rattle.std.specs.Arc.{arc_value}
use Rattle.std.specs.List.{slice_get}
use Rattle.atomic_table.specs.Seated.{TableId}
use Rattle.atomic_table.specs.declared.shared.Seat.{Seat as TableSeat}
use Rattle.tsc_left_right.specs.declared.replicated.Replicated.{Ghosts}
use Rattle.tsc_left_right.specs.declared.table.WriterState.{WriterState}
use Rattle.tsc_left_right.specs.declared.table.Slot.{Slot}
use Rattle.tsc_left_right.specs.declared.table.Slot.TheVariants.{Empty, Writer, Handle}
use Rattle.tsc_left_right.specs.declared.table.Knowledge.{Knowledge}
use Rattle.tsc_left_right.specs.declared.table.Setup.{Setup}
use Rattle.tsc_left_right.specs.Histories.{own_count, BeginsWith, IsLegal}
use Rattle.tsc_left_right.specs.Copies.{CanBe}
use Rattle.tsc_left_right.specs.Rule.{word_count, slot_count, HasNoted}
use Rattle.tsc_left_right.specs.Rule.{keeping, side_slot, standby_side, Shows, IsAfter}
use Rattle.tsc_left_right.specs.Steps.{first_state, Acquires, flipped, released, staged}
use Rattle.tsc_left_right.specs.Steps.{At, state_in, with_state, seated, number_of, seen_of}
use Rattle.tsc_left_right.specs.Steps.{count_of, clearing, noting, Filled, Anything, IsHandleOn, front_of}
use Rattle.tsc_left_right.specs.Steps.{published}

abbrev pub Participant : Type 0 → Type 0 → Type 0 → Type 0 → Type 0
Participant C O S E = TableSeat (Slot C O) (Knowledge S E)

-- the table has the words and slots of `seats` seats
pub record IsSized (table : TableId) (seats : ℕ) : Type 0 where
  pub words : table.words ≡ word_count seats
  pub slots : table.slots ≡ slot_count seats

module _ {S E : Type 0} where
  -- the number of the seat, which is one of the table's
  abbrev pub IsNumber : Knowledge S E → ℕ → Type 0
  IsNumber v number = (number ≡ number_of v) × (number < v.setup.seats)

  -- a participant that keeps the state of one seat
  abbrev pub KeepsOne : Knowledge S E → Type 0
  KeepsOne v = v ≡ with_state v (state_in v)

  -- a participant that keeps states, and no front
  abbrev pub KeepsStates : Knowledge S E → Type 0
  KeepsStates v = v ≡ keeping v.setup v.states

  -- what a seat knows once it is unpinned
  abbrev pub unpinned_in : Knowledge S E → Knowledge S E
  unpinned_in v = with_state v (staged (state_in v) 0)

  -- what a writer knows once it has released the lock
  abbrev pub released_in : Knowledge S E → Knowledge S E
  released_in v = with_state v (released (state_in v))

  -- the writer, as it is in v, when `cleared` seats are cleared
  abbrev pub cleared_in : Knowledge S E → ℕ → Knowledge S E
  cleared_in v cleared = with_state v (clearing (state_in v) cleared)

  -- the writer, as it is in v, when these epochs are noted
  abbrev pub noted_in : Knowledge S E → List ℕ → Knowledge S E
  noted_in v noted = with_state v (noting (state_in v) noted)

  -- a seat of this table, the side of the standby copy, and the epoch that was noted of the seat
  abbrev pub IsNext : Knowledge S E → ℕ → ℕ → ℕ → Type 0
  IsNext v seat standby noted =
      (seat < v.setup.seats) × (standby ≡ standby_side (state_in v).head)
      × (slice_get (state_in v).noted seat ≡ Some noted)

  -- the number of seats, the side of the standby copy, and the epochs that were noted
  abbrev pub AreSides : Knowledge S E → ℕ → ℕ → List ℕ → Type 0
  AreSides v seats standby noted =
      (seats ≡ v.setup.seats) × (standby ≡ standby_side (state_in v).head)
      × (noted ≡ (state_in v).noted) × (length noted ≡ seats)

module _ {C O S E : Type 0} where
  -- one that takes part in this table, which has words and slots for all seats
  pub record IsOf (p : Participant C O S E) (id : TableId) : Type 0 where
    pub table : p.table_id ≡ id
    pub sized : IsSized id p.me.0.setup.seats

  -- The participant is that of the seat with this number, and takes part in this table, which is
  -- set up so.
  pub record IsSeatOf (table : TableId) (setup : Setup S) (number : ℕ)
      (who : Participant C O S E) : Type 0 where
    pub of : IsOf who table
    pub setup_is : setup ≡ who.me.0.setup
    pub number_is : IsNumber who.me.0 number

  -- the participant of a seat between two calls
  abbrev pub IsAtRest : At C O S E → Type 0
  IsAtRest me = me ≡ (seated me.0.setup (number_of me.0) (seen_of me.0) (count_of me.0), [])

  -- a participant that keeps the first of the states in v
  abbrev pub IsFirstOf : Knowledge S E → At C O S E → Type 0
  IsFirstOf v me = me ≡ (keeping v.setup (first_state v.states ∷ []), [])

  -- a front
  abbrev pub IsFront : At C O S E → Type 0
  IsFront me = me ≡ (front_of me.0.setup me.0.front, [])

  -- a seat that may acquire the writer lock: it has nothing in hand
  pub record IsFree (me : At C O S E) : Type 0 where
    pub one : KeepsOne me.0
    pub hand : me.1 ≡ []
    pub holds : (state_in me.0).holds ≡ false
    pub unpinned : (state_in me.0).stage ≡ 0

  -- The writer, as it is in v, has cleared `cleared` seats. In hand are its own slot, which is
  -- empty, and those of the seats that it has cleared.
  pub record IsWriting (v : Knowledge S E) (me : At C O S E) (cleared : ℕ) : Type 0 where
    pub slots : List (ℕ × Slot C O)
    pub is : me ≡ (cleared_in v cleared, (0, Empty) ∷ slots)
    pub filled : Filled Anything (standby_side (state_in v).head) 0 slots cleared
    pub holds : (state_in v).holds ≡ true
    pub unpinned : (state_in v).stage ≡ 0

  -- the participant has the writer lock
  abbrev pub HasLock : At C O S E → Type 0
  HasLock me = (cleared : ℕ) × IsWriting me.0 me cleared

  -- the writer, who has noted no epoch yet
  pub record MayNote (me : At C O S E) : Type 0 where
    pub is : me.0 ≡ noted_in me.0 []
    pub holds : (state_in me.0).holds ≡ true

  -- The writer has cleared some seats, and each of their slots has a handle on a copy after a
  -- number of operations.
  pub record HasInstalled (v : Knowledge S E) (me : At C O S E) (copy : C) (adds cleared : ℕ)
      : Type 0 where
    pub slots : List (ℕ × Slot C O)
    pub is : me ≡ (cleared_in v cleared, (0, Empty) ∷ slots)
    pub filled : Filled (IsHandleOn copy adds) (standby_side (state_in v).head) 0 slots cleared
    pub holds : (state_in v).holds ≡ true
    pub unpinned : (state_in v).stage ≡ 0

module _ {C O : Type 0} where
  -- a slot has a handle that meets P
  abbrev pub HasHandle : Slot C O → (C → ℕ → Type 0) → Type 0
  HasHandle Empty P = ⊥
  HasHandle (Writer state) P = ⊥
  HasHandle (Handle handle) P = P (arc_value handle.copy) handle.length

  abbrev pub IsHandle : Slot C O → Type 0
  IsHandle x = HasHandle x (λ copy length. Unit {0})

module _ {P C O S E : Type 0} (R : Ghosts P C O S E) where
  -- what a writer knows once it has published
  abbrev pub published_in : Knowledge S E → Option O → Knowledge S E
  published_in v op = with_state v (flipped R (state_in v) op)

  -- A seat of v has acquired the lock, and its slot, which is empty, is in its hand.
  abbrev pub HasAcquired : Knowledge S E → At C O S E → WriterState C O → Type 0
  HasAcquired v me state = Acquires R v me.0 state × (me.1 ≡ (0, Empty) ∷ [])

  -- A writer may release the lock, with a state that is as it knows.
  pub record MayRelease (me : At C O S E) (state : WriterState C O) : Type 0 where
    pub lock : HasLock me
    pub is_after : IsAfter R me.0.setup (seen_of me.0) (state_in me.0).head state
    pub noted : HasNoted me.0.setup.seats (state_in me.0).noted state

  -- an operation that may come next, if there is one
  abbrev pub CanAdd : Setup S → Option O → Type 0
  CanAdd setup None = Unit {0}
  CanAdd setup (Some op) = CanBe R setup op

  -- What the writer has prepared can be published: its operation, which the limit allows. The state
  -- says what HEAD is until then.
  pub record IsReady (v : Knowledge S E) (state : WriterState C O) : Type 0 where
    pub can : CanAdd v.setup state.copies.lagging
    pub limit : length (published R (state_in v) state.copies.lagging) ≤ v.setup.limit
    pub is_after : IsAfter R v.setup (published R (state_in v) state.copies.lagging)
        (state_in v).head state

  -- The writer of v has published what the old state was prepared for. Its slot, which is empty, is
  -- in its hand, and no epoch is noted yet.
  pub record HasFlipped (v : Knowledge S E) (old : WriterState C O) (me : At C O S E)
      (state : WriterState C O) : Type 0 where
    pub is : me ≡ (published_in v old.copies.lagging, (0, Empty) ∷ [])
    pub holds : (state_in v).holds ≡ true
    pub unpinned : (state_in v).stage ≡ 0
    pub is_after : IsAfter R v.setup (published R (state_in v) old.copies.lagging)
        (standby_side (state_in v).head) state
    pub long : length state.noted.items ≡ length old.noted.items

  -- A seat that has its slot of this side in hand, and what lies there.
  pub record IsPinned (me : At C O S E) (side : ℕ) (x : Slot C O) : Type 0 where
    pub one : KeepsOne me.0
    pub small : side < 2
    pub stage : (state_in me.0).stage ≡ side + 2
    pub hand : me.1 ≡ (side_slot (number_of me.0) side, x) ∷ []
    pub shows : Shows R me.0.setup (seen_of me.0) x

  -- A seat that is at rest again has read a copy, which stands for the whole history, so long.
  pub record HasLooked (v : Knowledge S E) (me : At C O S E) (found : ℕ) (copy : C) : Type 0 where
    pub history : List E
    pub after : me ≡ (seated v.setup (number_of v) history (count_of v), [])
    pub begins : BeginsWith history (seen_of v)
    pub legal : IsLegal R v.setup.config v.setup.seats history
    pub own : own_count R (number_of v) history ≡ count_of v
    pub limit : length history ≤ v.setup.limit
    pub stands : R.stands v.setup.config history copy
    pub long : found ≡ length history

  -- A seat at rest has seen the whole history, so long, which begins with what it and another had
  -- seen.
  pub record SeesNewest (me me' : At C O S E) (other : List E) (found : ℕ) : Type 0 where
    pub history : List E
    pub after : me' ≡ (seated me.0.setup (number_of me.0) history (count_of me.0), [])
    pub begins : BeginsWith history (seen_of me.0)
    pub begins_other : BeginsWith history other
    pub legal : IsLegal R me.0.setup.config me.0.setup.seats history
    pub own : own_count R (number_of me.0) history ≡ count_of me.0
    pub limit : length history ≤ me.0.setup.limit
    pub long : found ≡ length history
