-- The rule of the lock: what holds between any two steps of any threads.
use Rattle.std.specs.Prelude.{◌≡◌, ℕ, suc, ◌==◌, nat_lt, List, [], ◌∷◌, length}
use Rattle.std.specs.Prelude.{slice_index, Bool, true, false, Box, if◌then◌else◌}
use Rattle.std.specs.List.{sum_by}
use Rattle.std.specs.declared.alloc.Global.{Global}
use mathlib.Core.Option as maybe
use lib.ListN.{get_elem?}
use Rattle.atomic_table.specs.Table.{State}
use Rattle.mvcc_shared.specs.declared.served.Served.{Served}
use Rattle.mvcc_shared.specs.declared.table.ClientState.{ClientState}
use Rattle.mvcc_shared.specs.declared.table.Knowledge.{Knowledge}
use Rattle.mvcc_shared.specs.History.{
  History,
  Terms,
  IsLegal,
  BeginsWith,
  calls_of,
  range_after,
  log_of,
}

-- a client between two calls, which has seen a history
abbrev pub at_rest : ℕ → History → ClientState
at_rest number seen = record { number = number; seen = seen; holds = false }

-- the states of clients that have seen nothing, as many as the second number, with numbers from the
-- first one on
abbrev pub fresh_states : ℕ → ℕ → List ClientState
fresh_states number ℕ.zero = []
fresh_states number (suc others) = at_rest number [] ∷ fresh_states (suc number) others

-- a participant that keeps the states of some clients, and no front
abbrev pub keeping : Terms → List ClientState → Knowledge
keeping setup states = record { live = true; setup = setup; states = states; front = [] }

-- the first participant keeps the states of all clients
abbrev pub first_knowledge : Terms → Knowledge
first_knowledge setup = keeping setup (fresh_states 0 setup.clients)

-- 1 for yes, and 0 for no
abbrev pub one_if : Bool → ℕ
one_if b = if b then 1 else 0

-- how many states a participant keeps, how many of them are those of a client, and how many hold
-- the lock
abbrev pub states_in : Knowledge → ℕ
states_in v = length v.states

abbrev pub states_of : ℕ → Knowledge → ℕ
states_of number v = sum_by (λ (p : ClientState). one_if (p.number == number)) v.states

abbrev pub holders : Knowledge → ℕ
holders v = sum_by (λ (p : ClientState). one_if p.holds) v.states

-- What a client's state says fits. The client has seen a beginning of the history, which has all
-- its calls. It has seen all of the history while it holds the lock.
pub record StateFits (history : History) (p : ClientState) : Type 0 where
  pub begins : BeginsWith history p.seen
  pub own : calls_of p.number history ≡ calls_of p.number p.seen
  pub all : p.holds ≡ true → history ≡ p.seen

-- What a participant knows fits.
pub record KnowledgeFits (setup : Terms) (history : History) (v : Knowledge) : Type 0 where
  pub settled : v.live ≡ true → v.setup ≡ setup
  pub states : (at : ℕ) (p : ClientState) → get_elem? v.states at ≡ maybe.some p
      → StateFits history p
  pub front : BeginsWith history v.front

-- what lies in the slot
abbrev pub StoredRange : Type 0
StoredRange = Box Served Global

-- A range and its log are what a history leaves.
pub record IsAfter (terms : Terms) (history : History) (served : Served) : Type 0 where
  pub range : served.range ≡ range_after terms.opened history
  pub log : served.log.items ≡ log_of history

-- The range is at home, and is what the history leaves.
abbrev pub IsHome : Terms → History → List (maybe.Option StoredRange) → Type 0
IsHome setup history homes = (x : StoredRange) × (get_elem? homes 0 ≡ maybe.some (maybe.some x))
    × IsAfter setup history x.value

-- There is one legal history. What each participant knows fits, and each client has one state.
-- Where the lock is free, nobody holds it, and the range is at home. Else one client holds it.
pub record RangeRule (setup : Terms) (s : State StoredRange Knowledge) : Type 0 where
  pub history : History
  pub legal : IsLegal setup history
  pub wide : length s.words ≡ 1
  pub deep : length s.homes ≡ 1
  pub views : (id : ℕ) (v : Knowledge) → get_elem? s.views id ≡ maybe.some v
      → KnowledgeFits setup history v
  pub all : sum_by states_in s.views ≡ setup.clients
  pub each : (number : ℕ) → sum_by (states_of number) s.views
      ≡ one_if (nat_lt number setup.clients)
  pub lock : sum_by holders s.views ≡ one_if (nat_lt 0 (slice_index s.words 0))
  pub home : slice_index s.words 0 ≡ 0 → IsHome setup history s.homes
