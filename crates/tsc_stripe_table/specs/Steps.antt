-- What each step says to the one who takes it.
use Rattle.std.specs.Prelude.{◌≡◌, ◌≢◌, ◌⊎◌, ℕ, zero, suc, ◌+◌, ◌<◌, ◌==◌, nat_le, List, [], ◌∷◌}
use Rattle.std.specs.Prelude.{◌++◌, length, Bool, true, false, if◌then◌else◌}
use Rattle.atomic_table.specs.Table.{Me, Step, rest}
use Rattle.tsc_time.specs.Time.{zero_time}
use Rattle.tsc_span.specs.Span.{KeyBytes}
use Rattle.tsc_page_model.specs.Page.{Mark}
use Rattle.tsc_cache.specs.CacheView.{CacheView}
use Rattle.tsc_cache.specs.declared.history.Entry.{Entry}
use Rattle.tsc_cache.specs.History.{History, own_count, entry_of_mark, BeginsWith, IsLegal}
use Rattle.tsc_stripe_table.specs.declared.stripe.PendingAdd.{PendingAdd}
use Rattle.tsc_stripe_table.specs.declared.stripe.PendingBatch.{PendingBatch}
use Rattle.tsc_stripe_table.specs.declared.table.SeatState.{SeatState}
use Rattle.tsc_stripe_table.specs.declared.table.Knowledge.{Knowledge}
use Rattle.tsc_stripe_table.specs.Stripes.{Terms, part_of, entry_in, IsStateOn}
use Rattle.tsc_stripe_table.specs.Rule.{at_rest, keeping, times_held, lock_word, StoredStripe}

-- what a participant knows, and what it has in hand
abbrev pub At : Type 0
At = Me StoredStripe Knowledge

-- the first of some states, and the others
abbrev pub first_state : List SeatState → SeatState
first_state [] = at_rest 0 [] 0
first_state (p ∷ ps) = p

abbrev pub other_states : List SeatState → List SeatState
other_states [] = []
other_states (p ∷ ps) = ps

-- the state that a participant keeps, and a participant that keeps another one
abbrev pub state_in : Knowledge → SeatState
state_in v = first_state v.states

abbrev pub with_state : Knowledge → SeatState → Knowledge
with_state v p = keeping v.setup (p ∷ [])

-- the number of the seat, what it has seen, and how many Adds of its own
abbrev pub number_of : Knowledge → ℕ
number_of v = (state_in v).number

abbrev pub seen_of : Knowledge → History
seen_of v = (state_in v).seen

abbrev pub count_of : Knowledge → ℕ
count_of v = (state_in v).count

-- the stripes that it holds, and the history that it has reached
abbrev pub holds_of : Knowledge → List ℕ
holds_of v = (state_in v).holds

abbrev pub reached_of : Knowledge → History
reached_of v = (state_in v).reached

-- the participant of a seat between two calls
abbrev pub seated : Terms → ℕ → History → ℕ → Knowledge
seated setup number seen count = keeping setup (at_rest number seen count ∷ [])

-- a participant that keeps no state: a front of this history
abbrev pub front_of : Terms → History → Knowledge
front_of setup seen = record { live = true; setup = setup; states = []; front = seen }

-- a participant that was joined to another
abbrev pub spent : Knowledge
spent = record {
  live = false;
  setup = record {
    config = record {
      page_first = 0;
      page_max = 0;
      min_pages = 0;
      retention = 0;
      low_water = zero_time;
    };
    seats = 0;
    bounds = [];
  };
  states = [];
  front = [];
}

-- the longer of two histories
abbrev pub longer : History → History → History
longer a b = if nat_le (length a) (length b) then b else a

-- the stripes that were acquired before the last one
abbrev pub earlier : List ℕ → List ℕ
earlier [] = []
earlier (i ∷ others) = others

-- what a seat has reached with these stripes: nothing where it holds none
abbrev pub reached_with : List ℕ → History → History
reached_with [] h = []
reached_with (i ∷ others) h = h

-- A seat has acquired one more lock, and reached a history.
abbrev pub acquired : SeatState → ℕ → History → SeatState
acquired p stripe h = record p { holds = stripe ∷ p.holds; reached = h }

-- The lock that it acquired last is released.
abbrev pub released : SeatState → SeatState
released p = record p {
  holds = earlier p.holds;
  reached = reached_with (earlier p.holds) p.reached;
}

-- The same, and the seat has seen the history that it had reached.
abbrev pub released_seen : SeatState → SeatState
released_seen p = record p {
  seen = p.reached;
  holds = earlier p.holds;
  reached = reached_with (earlier p.holds) p.reached;
}

-- The same, after one more Add of the seat, with which the history is this one.
abbrev pub committed : SeatState → History → SeatState
committed p h = record p {
  seen = h;
  count = suc p.count;
  holds = earlier p.holds;
  reached = reached_with (earlier p.holds) h;
}

-- two histories have the same parts on all stripes that are held
abbrev pub AgreeOn : List KeyBytes → List ℕ → History → History → Type 0
AgreeOn bounds holds h g = (stripe : ℕ) → 0 < times_held stripe holds
    → part_of bounds stripe h ≡ part_of bounds stripe g

-- The seat of v has acquired the lock of a stripe, and has reached a history for which that stripe
-- stands. The stripes that it held before had no Add since.
pub record Acquires (v w : Knowledge) (stripe : ℕ) (cache : CacheView) : Type 0 where
  pub history : History
  pub after : w ≡ with_state v (acquired (state_in v) stripe history)
  pub begins : BeginsWith history (seen_of v)
  pub legal : IsLegal v.setup.config v.setup.seats history
  pub own : own_count (number_of v) history ≡ count_of v
  pub unchanged : AgreeOn v.setup.bounds (holds_of v) history (reached_of v)
  pub stands : IsStateOn v.setup stripe history cache

-- The lock of a stripe is acquired where it was free, with what lies there. Else nothing changes.
abbrev pub acquires : Step StoredStripe → At → ℕ → At → Type 0
acquires st me found me' =
    (found ≡ 0 → (stripe : ℕ) × (x : StoredStripe) × (st.word ≡ lock_word stripe)
    × Acquires me.0 me'.0 stripe x.value.cache × (me'.1 ≡ (stripe, x) ∷ me.1))
    × (found ≢ 0 → me' ≡ me)

-- The lock that was acquired last is released.
abbrev pub releases : Step StoredStripe → At → ℕ → At → Type 0
releases st me stored me' = me' ≡ (with_state me.0 (released (state_in me.0)), rest me.1)

-- It is released, and the seat has seen what it had reached.
abbrev pub releases_seen : Step StoredStripe → At → ℕ → At → Type 0
releases_seen st me stored me' =
    me' ≡ (with_state me.0 (released_seen (state_in me.0)), rest me.1)

-- the mark of an Add
abbrev pub mark_of : PendingAdd → Mark
mark_of p = record { span = p.span.value; value = p.value.value }

-- the next entry of a seat for an Add
abbrev pub entry_of : SeatState → PendingAdd → Entry
entry_of p add = entry_of_mark p.number p.count (mark_of add) add.moment.value

-- the entry of the Add that was made last on what is in hand
abbrev pub made_in : SeatState → List (ℕ × StoredStripe) → History
made_in p [] = []
made_in p ((k, x) ∷ others) = entry_of p x.value.pending ∷ []

-- the next entry of a seat for a batch
abbrev pub entry_of_batch : SeatState → PendingBatch → Entry
entry_of_batch p batch = record {
  seat = p.number;
  number = p.count;
  marks = batch.marks.value.items;
  now = batch.moment.value;
}

-- the entry of the batch that was made last on what is in hand
abbrev pub batch_in : SeatState → List (ℕ × StoredStripe) → History
batch_in p [] = []
batch_in p ((k, x) ∷ others) = entry_of_batch p x.value.batch ∷ []

-- An Add of a seat has become the last entry of the history, which begins with all that the seat
-- had seen. The stripes that it held had no Add since it reached its history.
pub record Commits (v w : Knowledge) (made : History) : Type 0 where
  pub before : History
  pub after : w ≡ with_state v (committed (state_in v) (before ++ made))
  pub begins : BeginsWith before (seen_of v)
  pub legal : IsLegal v.setup.config v.setup.seats (before ++ made)
  pub own : own_count (number_of v) (before ++ made) ≡ suc (count_of v)
  pub unchanged : AgreeOn v.setup.bounds (holds_of v) before (reached_of v)

-- The Add on what is in hand is committed, and the lock that was acquired last is released.
abbrev pub commits : Step StoredStripe → At → ℕ → At → Type 0
commits st me stored me' = Commits me.0 me'.0 (made_in (state_in me.0) me.1)
    × (me'.1 ≡ rest me.1)

-- The batch on what is in hand is committed, and the lock that was acquired last is released.
abbrev pub commits_batch : Step StoredStripe → At → ℕ → At → Type 0
commits_batch st me stored me' = Commits me.0 me'.0 (batch_in (state_in me.0) me.1)
    × (me'.1 ≡ rest me.1)

-- An entry lies on stripes that are held, and on no others.
abbrev pub IsCovered : List KeyBytes → List ℕ → Entry → Type 0
IsCovered bounds holds e = (stripe : ℕ) →
    (entry_in bounds stripe e ≡ []) ⊎ (0 < times_held stripe holds)

-- A seat that holds no lock has seen the longer of what it and another had seen.
pub record CatchesUp (me me' : At) (other : History) : Type 0 where
  pub history : History
  pub is_longer : history ≡ longer (seen_of me.0) other
  pub after : me' ≡ (seated me.0.setup (number_of me.0) history (count_of me.0), [])
  pub begins : BeginsWith history (seen_of me.0)
  pub begins_other : BeginsWith history other
  pub legal : IsLegal me.0.setup.config me.0.setup.seats history
  pub own : own_count (number_of me.0) history ≡ count_of me.0

-- A seat catches up with the front that it has taken in.
abbrev pub catches_up : Step StoredStripe → At → ℕ → At → Type 0
catches_up st me found me' = CatchesUp me me' me.0.front
