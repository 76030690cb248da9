-- What each step says to the one who takes it.
use Rattle.std.specs.Prelude.{◌≡◌, ◌≢◌, ℕ, suc, ◌+◌, ◌%◌, ◌≤◌, ◌==◌, ◌||◌, not}
use Rattle.std.specs.Prelude.{nat_le, List, [], ◌∷◌, ◌++◌, length, Bool, true, false}
use Rattle.std.specs.Prelude.{Option, Some, None, if◌then◌else◌}
use Rattle.std.specs.Arc.{arc_value}
use Rattle.std.specs.List.{slice_get}
use Rattle.atomic_table.specs.Table.{Me, Step, rest}
use Rattle.tsc_left_right.specs.declared.replicated.Replicated.{Ghosts}
use Rattle.tsc_left_right.specs.declared.table.Setup.{Setup}
use Rattle.tsc_left_right.specs.declared.table.WriterState.{WriterState}
use Rattle.tsc_left_right.specs.declared.table.SeatState.{SeatState}
use Rattle.tsc_left_right.specs.declared.table.Knowledge.{Knowledge}
use Rattle.tsc_left_right.specs.declared.table.Slot.{Slot}
use Rattle.tsc_left_right.specs.declared.table.Slot.TheVariants.{Empty, Writer, Handle}
use Rattle.tsc_left_right.specs.Histories.{own_count, BeginsWith, IsLegal}
use Rattle.tsc_left_right.specs.Rule.{at_rest, keeping, side_slot}
use Rattle.tsc_left_right.specs.Rule.{active_side, standby_side, Shows}
use Rattle.tsc_left_right.specs.Rule.{StoredState, IsAfter}

-- what a participant knows, and what it has in hand
abbrev pub At : Type 0 → Type 0 → Type 0 → Type 0 → Type 0
At C O S E = Me (Slot C O) (Knowledge S E)

-- the longer of two histories
abbrev pub longer : {E : Type 0} → List E → List E → List E
longer a b = if nat_le (length a) (length b) then b else a

-- an epoch that shows that the seat does not have its slot of the standby side
abbrev pub has_left : Option ℕ → ℕ → Bool
has_left None e = e % 2 == 0
has_left (Some w) e = (e % 2 == 0) || not (w == e)

module _ {E : Type 0} where
  -- the first of some states, and the others
  abbrev pub first_state : List (SeatState E) → SeatState E
  first_state [] = at_rest 0 [] 0
  first_state (p ∷ ps) = p

  abbrev pub other_states : List (SeatState E) → List (SeatState E)
  other_states [] = []
  other_states (p ∷ ps) = ps

  -- A seat sees the whole history when it acquires the lock, and the epochs that were noted.
  abbrev pub acquired : SeatState E → List E → ℕ → List ℕ → SeatState E
  acquired p h head noted =
      record p { holds = true; seen = h; head = head; cleared = 0; noted = noted }

  -- The lock is released, and nothing is in hand.
  abbrev pub released : SeatState E → SeatState E
  released p = record p { holds = false; head = 0; cleared = 0; noted = [] }

  -- the writer, when `cleared` seats are cleared
  abbrev pub clearing : SeatState E → ℕ → SeatState E
  clearing p cleared = record p { cleared = cleared }

  -- the writer, when these epochs are noted
  abbrev pub noting : SeatState E → List ℕ → SeatState E
  noting p noted = record p { noted = noted }

  -- a seat at a stage
  abbrev pub staged : SeatState E → ℕ → SeatState E
  staged p stage = record p { stage = stage }

module _ {S E : Type 0} where
  -- the state that a participant keeps, and a participant that keeps another one
  abbrev pub state_in : Knowledge S E → SeatState E
  state_in v = first_state v.states

  abbrev pub with_state : Knowledge S E → SeatState E → Knowledge S E
  with_state v p = keeping v.setup (p ∷ [])

  -- the number of the seat, what it has seen, and how many operations of its own
  abbrev pub number_of : Knowledge S E → ℕ
  number_of v = (state_in v).number

  abbrev pub seen_of : Knowledge S E → List E
  seen_of v = (state_in v).seen

  abbrev pub count_of : Knowledge S E → ℕ
  count_of v = (state_in v).count

  -- the participant of a seat between two calls
  abbrev pub seated : Setup S → ℕ → List E → ℕ → Knowledge S E
  seated setup number seen count = keeping setup (at_rest number seen count ∷ [])

  -- a participant that keeps no state: a front of this history
  abbrev pub front_of : Setup S → List E → Knowledge S E
  front_of setup seen = record { live = true; setup = setup; states = []; front = seen }

  -- a participant that was joined to another
  abbrev pub spent : S → Knowledge S E
  spent unsettled = record {
    live = false;
    setup = record { config = unsettled; seats = 0; limit = 0 };
    states = [];
    front = [];
  }

module _ {C O : Type 0} where
  -- the slots of a side, of the seats from one on up to below another, each with what meets P
  abbrev pub Filled : (Slot C O → Type 0) → ℕ → ℕ → List (ℕ × Slot C O) → ℕ → Type 0
  Filled P side from [] to = from ≡ to
  Filled P side from (x ∷ xs) to = (x.0 ≡ side_slot from side) × P x.1
      × Filled P side (suc from) xs to

  abbrev pub Anything : Slot C O → Type 0
  Anything x = Unit {0}

  -- a handle on this copy, which has had `adds` operations
  abbrev pub IsHandleOn : C → ℕ → Slot C O → Type 0
  IsHandleOn copy adds Empty = ⊥
  IsHandleOn copy adds (Writer state) = ⊥
  IsHandleOn copy adds (Handle handle) = (arc_value handle.copy ≡ copy) × (handle.length ≡ adds)

  -- the operation that the standby copy lacks, as what is in hand says it
  abbrev pub lagging_in : List (ℕ × Slot C O) → Option O
  lagging_in [] = None
  lagging_in ((k, Empty) ∷ xs) = lagging_in xs
  lagging_in ((k, Writer state) ∷ xs) = state.value.copies.lagging
  lagging_in ((k, Handle handle) ∷ xs) = lagging_in xs

  -- what is in hand behind the handles
  abbrev pub behind_handles : List (ℕ × Slot C O) → List (ℕ × Slot C O)
  behind_handles [] = []
  behind_handles ((k, Empty) ∷ xs) = (k, Empty) ∷ xs
  behind_handles ((k, Writer state) ∷ xs) = (k, Writer state) ∷ xs
  behind_handles ((k, Handle handle) ∷ xs) = behind_handles xs

module _ {C O S E : Type 0} where
  -- The writer releases the lock.
  abbrev pub releases : Step (Slot C O) → At C O S E → ℕ → At C O S E → Type 0
  releases st me stored me' = me' ≡ (with_state me.0 (released (state_in me.0)), [])

  -- Nobody knows more or less.
  abbrev pub stays : Step (Slot C O) → At C O S E → ℕ → At C O S E → Type 0
  stays st me found me' = me' ≡ me

  -- The next seat is cleared where it has left: its slot of the standby side is in hand. Else
  -- nothing changes.
  abbrev pub clears : Step (Slot C O) → At C O S E → ℕ → At C O S E → Type 0
  clears st me e me' = let p = state_in me.0 in
      (has_left (slice_get p.noted p.cleared) e ≡ true → (x : Slot C O) × (me' ≡ (
        with_state me.0 (clearing p (suc p.cleared)),
        (side_slot p.cleared (standby_side p.head), x) ∷ me.1,
      )))
      × (has_left (slice_get p.noted p.cleared) e ≡ false → me' ≡ me)

  -- The next seat is cleared: its slot of the standby side is in hand.
  abbrev pub passes : Step (Slot C O) → At C O S E → ℕ → At C O S E → Type 0
  passes st me found me' = let p = state_in me.0 in (x : Slot C O) × (me' ≡ (
    with_state me.0 (clearing p (suc p.cleared)),
    (side_slot p.cleared (standby_side p.head), x) ∷ me.1,
  ))

  -- The epoch of the next seat is noted.
  abbrev pub notes : Step (Slot C O) → At C O S E → ℕ → At C O S E → Type 0
  notes st me e me' = let p = state_in me.0 in
      me' ≡ (with_state me.0 (noting p (p.noted ++ e ∷ [])), me.1)

  -- The seat is pinned.
  abbrev pub pins : Step (Slot C O) → At C O S E → ℕ → At C O S E → Type 0
  pins st me e me' = me' ≡ (with_state me.0 (staged (state_in me.0) 1), me.1)

  -- The seat is unpinned, and its slot is at home.
  abbrev pub unpins : Step (Slot C O) → At C O S E → ℕ → At C O S E → Type 0
  unpins st me e me' = me' ≡ (with_state me.0 (staged (state_in me.0) 0), rest me.1)

module _ {P C O S E : Type 0} (R : Ghosts P C O S E) where
  -- The seat of v holds the lock, and knows all: the history, and the state that lies there.
  pub record Acquires (v w : Knowledge S E) (state : WriterState C O) : Type 0 where
    pub history : List E
    pub head : ℕ
    pub after : w ≡ with_state v (acquired (state_in v) history head state.noted.items)
    pub begins : BeginsWith history (state_in v).seen
    pub legal : IsLegal R v.setup.config v.setup.seats history
    pub own : own_count R (state_in v).number history ≡ (state_in v).count
    pub limit : length history ≤ v.setup.limit
    pub is_after : IsAfter R v.setup history head state
    pub noted : length state.noted.items ≡ v.setup.seats

  -- The lock is acquired where it was free, with what lies there. Else nothing changes.
  abbrev pub acquires : Step (Slot C O) → At C O S E → ℕ → At C O S E → Type 0
  acquires st me found me' =
      (found ≡ 0 → (state : StoredState C O) × Acquires me.0 me'.0 state.value
      × (me'.1 ≡ (0, Writer state) ∷ [])) × (found ≢ 0 → me' ≡ me)

  -- the history once the writer has published its operation, if it has one, and how many of these
  -- are its own
  abbrev pub published : SeatState E → Option O → List E
  published p None = p.seen
  published p (Some op) = p.seen ++ R.entry_of p.number p.count op ∷ []

  abbrev pub counted : SeatState E → Option O → ℕ
  counted p None = p.count
  counted p (Some op) = p.count + 1

  -- the writer then
  abbrev pub flipped : SeatState E → Option O → SeatState E
  flipped p op = record p {
    seen = published p op;
    count = counted p op;
    head = standby_side p.head;
    cleared = 0;
    noted = [];
  }

  -- The writer's operation comes into the history, and on the active copy. The handles are at home,
  -- and the writer's own slot is in its hand.
  abbrev pub publishes : Step (Slot C O) → At C O S E → ℕ → At C O S E → Type 0
  publishes st me stored me' = me' ≡ (
    with_state me.0 (flipped (state_in me.0) (lagging_in me.1)),
    behind_handles me.1,
  )

  -- A seat has all of the history in sight by what it found in HEAD, and what lies there shows it.
  pub record SeesAll (v w : Knowledge S E) (found : ℕ) (x : Slot C O) : Type 0 where
    pub history : List E
    pub after : w ≡ with_state v
        (record (state_in v) { seen = history; stage = active_side found + 2 })
    pub begins : BeginsWith history (state_in v).seen
    pub legal : IsLegal R v.setup.config v.setup.seats history
    pub own : own_count R (state_in v).number history ≡ (state_in v).count
    pub limit : length history ≤ v.setup.limit
    pub shows : Shows R v.setup history x

  -- The seat has its slot of the active side, and has seen all.
  abbrev pub reads_head : Step (Slot C O) → At C O S E → ℕ → At C O S E → Type 0
  reads_head st me found me' = (x : Slot C O)
      × (me'.1 ≡ (side_slot (state_in me.0).number (active_side found), x) ∷ me.1)
      × SeesAll me.0 me'.0 found x

  -- A seat has seen the longer of what it and another had seen.
  pub record CatchesUp (me me' : At C O S E) (other : List E) : Type 0 where
    pub history : List E
    pub is_longer : history ≡ longer (state_in me.0).seen other
    pub after : me' ≡ (with_state me.0 (record (state_in me.0) { seen = history }), [])
    pub begins : BeginsWith history (state_in me.0).seen
    pub begins_other : BeginsWith history other
    pub legal : IsLegal R me.0.setup.config me.0.setup.seats history
    pub own : own_count R (state_in me.0).number history ≡ (state_in me.0).count
    pub limit : length history ≤ me.0.setup.limit

  -- A seat catches up with the front that it has taken in.
  abbrev pub catches_up : Step (Slot C O) → At C O S E → ℕ → At C O S E → Type 0
  catches_up st me found me' = CatchesUp me me' me.0.front
