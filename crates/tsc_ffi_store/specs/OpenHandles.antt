-- What each handle names that was given so far, by the handles that are open, in their order, and
-- by what these name. (For the model of a store, and private contracts.)
use Rattle.std.specs.Prelude.{◌≡◌, ◌≢◌, ◌+◌, ◌<◌, ◌≤◌, ◌⊎◌, ◌==◌, ◌++◌, ◌∷◌, ℕ, zero, suc, List, [], length, slice_index_or, if◌then◌else◌}
use Rattle.std.specs.List.{All, AllPairs}
use Rattle.tsc_ffi_store.specs.declared.store.Slot.{Slot}
use Rattle.tsc_ffi_store.specs.declared.store.Slot.TheVariants.{Closed}

-- what a handle names: nothing, where it is not open
abbrev pub names : List ℕ → List Slot → ℕ → Slot
names [] slots handle = Closed
names (h ∷ handles) [] handle = Closed
names (h ∷ handles) (slot ∷ slots) handle =
    if h == handle then slot else names handles slots handle

-- what the handles from 0 on name, so many of them
abbrev pub named_by : List ℕ → List Slot → ℕ → List Slot
named_by handles slots zero = []
named_by handles slots (suc next) = named_by handles slots next ++ names handles slots next ∷ []

-- Each handle is below all later ones.
abbrev pub Rises : List ℕ → Type 0
Rises handles = AllPairs (λ one later. one < later) handles

-- Handles are open that were given, each of which names one slot.
pub record AreOpen (handles : List ℕ) (slots : List Slot) (next : ℕ) : Type 0 where
  pub long : length slots ≡ length handles
  pub rises : Rises handles
  pub given : All (λ handle. handle < next) handles

-- A handle stands at a place of those that are open.
pub record StandsThere (handles : List ℕ) (handle place : ℕ) : Type 0 where
  pub within : place < length handles
  pub is : (d : ℕ) → slice_index_or handles place d ≡ handle

-- A handle is none of those that are open, and the place is behind them.
pub record IsNotOpen (handles : List ℕ) (handle place : ℕ) : Type 0 where
  pub behind : length handles ≤ place
  pub none : (k d : ℕ) → k < length handles → slice_index_or handles k d ≢ handle

-- where a handle stands, if it does
abbrev pub IsPlaceOf : List ℕ → ℕ → ℕ → Type 0
IsPlaceOf handles handle place = StandsThere handles handle place ⊎ IsNotOpen handles handle place

-- A slot is laid behind all that there are, at the next handle.
pub record PushesSlot (slot : Slot) (handles : List ℕ) (slots : List Slot) (next : ℕ)
    (handles' : List ℕ) (slots' : List Slot) (next' : ℕ) : Type 0 where
  pub handles_are : handles' ≡ handles ++ next ∷ []
  pub slots_are : slots' ≡ slots ++ slot ∷ []
  pub next_is : next' ≡ next + 1

-- A list has room for one element less, at the most.
abbrev pub IsRoomLess : ℕ → ℕ → ℕ → ℕ → Type 0
IsRoomLess long room long' room' = room + long' ≤ room' + long + 1
