-- The rule of the protocol: what holds between any two steps of any threads.
use Rattle.std.specs.Prelude.{◌≡◌, ◌≢◌, ℕ, suc, ◌+◌, ◌*◌, ◌%◌, ◌<◌, ◌≤◌, ◌==◌, nat_lt, List, []}
use Rattle.std.specs.Prelude.{◌∷◌, length, slice_index, Bool, true, false, Some}
use Rattle.std.specs.Prelude.{Box, if◌then◌else◌}
use Rattle.std.specs.List.{sum_by, slice_get}
use Rattle.std.specs.Arc.{arc_value}
use Rattle.std.specs.declared.alloc.Global.{Global}
use mathlib.Core.Option as maybe
use lib.ListN.{get_elem?}
use Rattle.atomic_table.specs.Table.{State}
use Rattle.tsc_left_right.specs.declared.replicated.Replicated.{Ghosts}
use Rattle.tsc_left_right.specs.declared.table.Setup.{Setup}
use Rattle.tsc_left_right.specs.declared.table.WriterState.{WriterState}
use Rattle.tsc_left_right.specs.declared.table.Slot.{Slot}
use Rattle.tsc_left_right.specs.declared.table.Slot.TheVariants.{Empty, Writer, Handle}
use Rattle.tsc_left_right.specs.declared.table.SeatState.{SeatState}
use Rattle.tsc_left_right.specs.declared.table.Knowledge.{Knowledge}
use Rattle.tsc_left_right.specs.Histories.{own_count, BeginsWith, IsLegal}
use Rattle.tsc_left_right.specs.Copies.{Stand}

-- 1 for yes, and 0 for no
abbrev pub one_if : Bool → ℕ
one_if b = if b then 1 else 0

-- The word HEAD, and the word with the epoch of a seat.
abbrev pub head_word : ℕ
head_word = 16

abbrev pub epoch_word : ℕ → ℕ
epoch_word seat = 16 * seat + 32

-- how many words a table of `seats` seats has, of which a few behind the last epoch serve nobody
abbrev pub word_count : ℕ → ℕ
word_count seats = 16 * seats + 32

-- the slot of a seat on a side
abbrev pub side_slot : ℕ → ℕ → ℕ
side_slot seat side = 16 * seat + 8 * side + 8

-- how many slots a table of `seats` seats has
abbrev pub slot_count : ℕ → ℕ
slot_count seats = 16 * seats + 8

-- HEAD is the side of the active copy. The other side is that of the standby copy.
abbrev pub active_side : ℕ → ℕ
active_side head = head % 2

abbrev pub standby_side : ℕ → ℕ
standby_side head = (head + 1) % 2

module _ {E : Type 0} where
  -- a seat between two calls, which has seen a history with `count` operations of its own
  abbrev pub at_rest : ℕ → List E → ℕ → SeatState E
  at_rest number seen count = record {
    number = number;
    seen = seen;
    count = count;
    holds = false;
    stage = 0;
    cleared = 0;
    noted = [];
    head = 0;
  }

  -- the states of seats that have seen nothing, as many as the second number, with numbers from the
  -- first one on
  abbrev pub fresh_states : ℕ → ℕ → List (SeatState E)
  fresh_states number ℕ.zero = []
  fresh_states number (suc others) = at_rest number [] 0 ∷ fresh_states (suc number) others

-- What stands behind the words and slots: the history, HEAD, the word of the lock, and the stage of
-- each seat. Of the writer: how many seats it has cleared. And the epochs that were noted, of the
-- seats from 0 on, since HEAD was written last.
pub record SharedState (E : Type 0) : Type 0 where
  pub history : List E
  pub head : ℕ
  pub word : ℕ
  pub stage_of : ℕ → ℕ
  pub cleared : ℕ
  pub noted : List ℕ

module _ {S E : Type 0} where
  -- a participant that keeps the states of some seats, and no front
  abbrev pub keeping : Setup S → List (SeatState E) → Knowledge S E
  keeping setup states = record { live = true; setup = setup; states = states; front = [] }

  -- the first participant keeps the states of all seats
  abbrev pub first_knowledge : Setup S → Knowledge S E
  first_knowledge setup = keeping setup (fresh_states 0 setup.seats)

  -- How many of a participant's states are those of a seat.
  abbrev pub states_of : ℕ → Knowledge S E → ℕ
  states_of number v = sum_by (λ (p : SeatState E). one_if (p.number == number)) v.states

  -- how many of a participant's states hold the writer lock
  abbrev pub holders : Knowledge S E → ℕ
  holders v = sum_by (λ (p : SeatState E). one_if p.holds) v.states

-- What the writer knows is all there is.
abbrev pub WriterFits : {E : Type 0} → SharedState E → SeatState E → Type 0
WriterFits g p =
    (p.seen ≡ g.history) × (g.word ≡ suc p.number) × (p.cleared ≡ g.cleared)
    × (p.noted ≡ g.noted) × (p.head ≡ g.head)

-- A table for so many seats has these words and slots, of which the words of the lock and of HEAD
-- are these.
pub record HasShape {X : Type 0} (seats word head : ℕ) (words : List ℕ) (homes : List X) : Type 0
  where
    pub wide : length words ≡ word_count seats
    pub deep : length homes ≡ slot_count seats
    pub word_is : slice_index words 0 ≡ word
    pub head_is : slice_index words head_word ≡ head

-- A slot is at home, and what it has meets P.
abbrev pub IsHome : {X : Type 0} → List (maybe.Option X) → ℕ → (X → Type 0) → Type 0
IsHome {X} homes i P = (x : X) × (get_elem? homes i ≡ maybe.some (maybe.some x)) × P x

-- what the writer's slot has
abbrev pub StoredState : Type 0 → Type 0 → Type 0
StoredState C O = Box (WriterState C O) Global

-- What the writer works with has the epochs that were noted, of as many seats.
pub record HasNoted {C O : Type 0} (seats : ℕ) (noted : List ℕ) (state : WriterState C O) : Type 0
  where
    pub is : state.noted.items ≡ noted
    pub long : length noted ≡ seats

module _ {P C O S E : Type 0} (R : Ghosts P C O S E) where
  -- a slot has a handle on a copy that stands for a history, and says how long that is
  abbrev pub Shows : Setup S → List E → Slot C O → Type 0
  Shows setup h Empty = ⊥
  Shows setup h (Writer state) = ⊥
  Shows setup h (Handle handle) = R.stands setup.config h (arc_value handle.copy)
      × (handle.length ≡ length h)

  -- What a seat's state says fits. The seat has seen a beginning of the history, which has all its
  -- operations. Who has a handle on the active copy in hand has seen all.
  pub record StateFits (g : SharedState E) (p : SeatState E) : Type 0 where
    pub begins : BeginsWith g.history p.seen
    pub own : own_count R p.number g.history ≡ p.count
    pub own_seen : own_count R p.number p.seen ≡ p.count
    pub at_stage : g.stage_of p.number ≡ p.stage
    pub sees : p.stage ≡ active_side g.head + 2 → p.seen ≡ g.history
    pub holding : p.holds ≡ true → WriterFits g p

  -- What a participant knows fits.
  pub record KnowledgeFits (setup : Setup S) (g : SharedState E) (v : Knowledge S E) : Type 0 where
    pub settled : v.live ≡ true → v.setup ≡ setup
    pub states : (at : ℕ) (p : SeatState E) → get_elem? v.states at ≡ maybe.some p
        → StateFits g p
    pub front : BeginsWith g.history v.front

  -- A seat's epoch is even where the seat is unpinned, and odd where it is pinned. Its slot on the
  -- active side is at home and shows the history, unless the seat has it in hand. Its slot on the
  -- standby side is at home, unless the seat has it, or the writer, who has cleared the seat. Where
  -- the seat has it, its epoch is the one that was noted, if one was.
  pub record SeatFits (setup : Setup S) (g : SharedState E) (words : List ℕ)
      (homes : List (maybe.Option (Slot C O))) (seat : ℕ) : Type 0 where
    pub unpinned : g.stage_of seat ≡ 0 → slice_index words (epoch_word seat) % 2 ≡ 0
    pub pinned : 0 < g.stage_of seat → slice_index words (epoch_word seat) % 2 ≡ 1
    pub active : g.stage_of seat ≢ active_side g.head + 2
        → IsHome homes (side_slot seat (active_side g.head)) (Shows setup g.history)
    pub standby : g.cleared ≤ seat → g.stage_of seat ≢ standby_side g.head + 2
        → (x : Slot C O) × (get_elem? homes (side_slot seat (standby_side g.head))
        ≡ maybe.some (maybe.some x))
    pub left : seat < g.cleared → g.stage_of seat ≢ standby_side g.head + 2
    pub late : (e : ℕ) → slice_get g.noted seat ≡ Some e
        → g.stage_of seat ≡ standby_side g.head + 2 → slice_index words (epoch_word seat) ≡ e

  -- What the writer works with is after a history, and says what HEAD is.
  pub record IsAfter (setup : Setup S) (h : List E) (head : ℕ) (state : WriterState C O) : Type 0
    where
      pub stand : Stand R setup.config h state.copies
      pub length : state.length ≡ length h
      pub head_is : state.head ≡ head

  -- There is one history, legal and within the limit. What each participant knows fits, and each
  -- seat has one state. Where the lock is free, nobody holds it, and nothing is cleared. The
  -- writer's slot has then what is after that history, and all epochs that were noted. Else one
  -- seat holds the lock.
  pub record LeftRightRule (setup : Setup S) (s : State (Slot C O) (Knowledge S E)) : Type 0 where
    pub g : SharedState E
    pub legal : IsLegal R setup.config setup.seats g.history
    pub limit : length g.history ≤ setup.limit
    pub shape : HasShape setup.seats g.word g.head s.words s.homes
    pub seats : (seat : ℕ) → seat < setup.seats → SeatFits setup g s.words s.homes seat
    pub views : (id : ℕ) (v : Knowledge S E) → get_elem? s.views id ≡ maybe.some v
        → KnowledgeFits setup g v
    pub each : (number : ℕ)
        → sum_by (states_of number) s.views ≡ one_if (nat_lt number setup.seats)
    pub one : sum_by holders s.views ≡ one_if (nat_lt 0 g.word)
    pub idle : g.word ≡ 0 → g.cleared ≡ 0
    pub free : g.word ≡ 0 → (state : StoredState C O)
        × (get_elem? s.homes 0 ≡ maybe.some (maybe.some (Writer state)))
        × IsAfter setup g.history g.head state.value × HasNoted setup.seats g.noted state.value
