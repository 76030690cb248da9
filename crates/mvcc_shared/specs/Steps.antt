-- What each step says to the one who takes it.
use Rattle.std.specs.Prelude.{◌≡◌, ◌≢◌, ℕ, nat_le, List, [], ◌∷◌, ◌++◌, length, true, false}
use Rattle.std.specs.Prelude.{if◌then◌else◌}
use Rattle.atomic_table.specs.Table.{Me, Step, rest}
use Rattle.timestamp_cache.specs.Words.{zero_time, nothing, ConfigView}
use Rattle.mvcc_shared.specs.declared.served.Served.{Served}
use Rattle.mvcc_shared.specs.declared.table.ClientState.{ClientState}
use Rattle.mvcc_shared.specs.declared.table.Knowledge.{Knowledge}
use Rattle.mvcc_shared.specs.History.{Event, History, Terms, IsLegal, BeginsWith, calls_of}
use Rattle.mvcc_shared.specs.Pending.{call_of}
use Rattle.mvcc_shared.specs.Rule.{at_rest, keeping, StoredRange, IsAfter}

-- what a participant knows, and what it has in hand
abbrev pub At : Type 0
At = Me StoredRange Knowledge

-- the first of some states, and the others
abbrev pub first_state : List ClientState → ClientState
first_state [] = at_rest 0 []
first_state (p ∷ ps) = p

abbrev pub other_states : List ClientState → List ClientState
other_states [] = []
other_states (p ∷ ps) = ps

-- the state that a participant keeps: whose it is, and what the client has seen
abbrev pub state_in : Knowledge → ClientState
state_in v = first_state v.states

abbrev pub number_of : Knowledge → ℕ
number_of v = (state_in v).number

abbrev pub seen_of : Knowledge → History
seen_of v = (state_in v).seen

-- the participant of a client between two calls, and of one that holds the lock
abbrev pub resting : Terms → ℕ → History → Knowledge
resting setup number seen = keeping setup (at_rest number seen ∷ [])

abbrev pub holding : Terms → ℕ → History → Knowledge
holding setup number seen =
    keeping setup (record { number = number; seen = seen; holds = true } ∷ [])

-- a participant that keeps no state: a front of this history
abbrev pub front_of : Terms → History → Knowledge
front_of setup seen = record { live = true; setup = setup; states = []; front = seen }

-- the terms of no range
abbrev pub no_config : ConfigView
no_config = record {
  page_first = 0;
  page_max = 0;
  min_pages = 0;
  retention = 0;
  low_water = zero_time;
}

abbrev pub no_terms : Terms
no_terms = record {
  config = no_config;
  clients = 0;
  opened = record {
    span = nothing;
    cache = record { config = no_config; floor = zero_time; pages = []; rotations = 0 };
    threshold = zero_time;
    chains = [];
  };
}

-- a participant that was joined to another
abbrev pub spent : Knowledge
spent = record { live = false; setup = no_terms; states = []; front = [] }

-- the longer of two histories
abbrev pub longer : History → History → History
longer a b = if nat_le (length a) (length b) then b else a

-- A client has acquired the lock, and has seen all of the history, which has no more calls of its
-- own. The range is what that history leaves.
pub record Acquires (me me' : At) (x : StoredRange) : Type 0 where
  pub history : History
  pub after : me' ≡ (holding me.0.setup (number_of me.0) history, (0, x) ∷ me.1)
  pub begins : BeginsWith history (seen_of me.0)
  pub own : calls_of (number_of me.0) history ≡ calls_of (number_of me.0) (seen_of me.0)
  pub legal : IsLegal me.0.setup history
  pub stands : IsAfter me.0.setup history x.value

-- The lock is acquired where it was free, with what lies there. Else nothing changes.
abbrev pub acquires : Step StoredRange → At → ℕ → At → Type 0
acquires st me found me' = (found ≡ 0 → (x : StoredRange) × Acquires me me' x) ×
    (found ≢ 0 → me' ≡ me)

-- the event of the call that was made last on what lies in the slot
abbrev pub event_by : ℕ → Served → Event
event_by number served = record {
  client = number;
  call = call_of served.pending;
  range = served.range;
}

-- what a client has seen once it has released the lock
abbrev pub seen_after : Knowledge → List (ℕ × StoredRange) → History
seen_after v [] = seen_of v
seen_after v ((k, x) ∷ others) = seen_of v ++ event_by (number_of v) x.value ∷ []

-- The lock is released, and the call that was made is the last of the history.
abbrev pub releases : Step StoredRange → At → ℕ → At → Type 0
releases st me stored me' =
    me' ≡ (resting me.0.setup (number_of me.0) (seen_after me.0 me.1), rest me.1)

-- A client that holds no lock has seen the longer of what it and another had seen.
pub record CatchesUp (me me' : At) (other : History) : Type 0 where
  pub history : History
  pub is_longer : history ≡ longer (seen_of me.0) other
  pub after : me' ≡ (resting me.0.setup (number_of me.0) history, [])
  pub begins : BeginsWith history (seen_of me.0)
  pub begins_other : BeginsWith history other
  pub own : calls_of (number_of me.0) history ≡ calls_of (number_of me.0) (seen_of me.0)
  pub legal : IsLegal me.0.setup history

-- A client catches up with the front that it has taken in.
abbrev pub catches_up : Step StoredRange → At → ℕ → At → Type 0
catches_up st me found me' = CatchesUp me me' me.0.front
