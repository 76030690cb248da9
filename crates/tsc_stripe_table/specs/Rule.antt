-- The rule of the stripes: what holds between any two steps of any threads.
use Rattle.std.specs.Prelude.{◌≡◌, ℕ, suc, ◌+◌, ◌*◌, ◌<◌, ◌==◌, nat_lt, List, [], ◌∷◌, length}
use Rattle.std.specs.Prelude.{slice_index, Bool, true, false, Box, if◌then◌else◌}
use Rattle.std.specs.List.{sum_by}
use Rattle.std.specs.declared.alloc.Global.{Global}
use mathlib.Core.Option as maybe
use lib.ListN.{get_elem?}
use Rattle.atomic_table.specs.Table.{State}
use Rattle.tsc_span.specs.Span.{KeyBytes}
use Rattle.tsc_cache.specs.History.{History, own_count, BeginsWith, IsLegal}
use Rattle.tsc_stripe_table.specs.declared.stripe.Stripe.{Stripe}
use Rattle.tsc_stripe_table.specs.declared.table.SeatState.{SeatState}
use Rattle.tsc_stripe_table.specs.declared.table.Knowledge.{Knowledge}
use Rattle.tsc_stripe_table.specs.Stripes.{Terms, stripe_count, part_of, IsStateOn}

-- a seat between two calls, which has seen a history with `count` Adds of its own
abbrev pub at_rest : ℕ → History → ℕ → SeatState
at_rest number seen count = record {
  number = number;
  seen = seen;
  count = count;
  holds = [];
  reached = [];
}

-- the states of seats that have seen nothing, as many as the second number, with numbers from the
-- first one on
abbrev pub fresh_states : ℕ → ℕ → List SeatState
fresh_states number ℕ.zero = []
fresh_states number (suc others) = at_rest number [] 0 ∷ fresh_states (suc number) others

-- a participant that keeps the states of some seats, and no front
abbrev pub keeping : Terms → List SeatState → Knowledge
keeping setup states = record { live = true; setup = setup; states = states; front = [] }

-- the first participant keeps the states of all seats
abbrev pub first_knowledge : Terms → Knowledge
first_knowledge setup = keeping setup (fresh_states 0 setup.seats)

-- 1 for yes, and 0 for no
abbrev pub one_if : Bool → ℕ
one_if b = if b then 1 else 0

-- how many of a participant's states are those of a seat
abbrev pub states_of : ℕ → Knowledge → ℕ
states_of number v = sum_by (λ (p : SeatState). one_if (p.number == number)) v.states

-- how often a stripe is among those that are held
abbrev pub times_held : ℕ → List ℕ → ℕ
times_held stripe holds = sum_by (λ (held : ℕ). one_if (held == stripe)) holds

-- how many of a participant's states hold a stripe
abbrev pub holders : ℕ → Knowledge → ℕ
holders stripe v = sum_by (λ (p : SeatState). times_held stripe p.holds) v.states

-- The lock of a stripe. No two locks share a line of 128 bytes, and word 0 is none of them.
abbrev pub lock_word : ℕ → ℕ
lock_word stripe = 16 * stripe + 16

-- how many words a table of these stripes has
abbrev pub word_count : ℕ → ℕ
word_count stripes = 16 * stripes + 16

-- each of some stripes lies above the next one
abbrev pub Descends : List ℕ → Type 0
Descends [] = Unit {0}
Descends (i ∷ []) = Unit {0}
Descends (i ∷ j ∷ others) = (j < i) × Descends (j ∷ others)

-- What a seat that holds locks has reached: a beginning of the history, with all Adds of the seat,
-- which begins with what the seat has seen.
pub record HasReached (history : History) (p : SeatState) : Type 0 where
  pub begins : BeginsWith history p.reached
  pub onward : BeginsWith p.reached p.seen
  pub own : own_count p.number p.reached ≡ p.count

-- What a seat's state says fits. The seat has seen a beginning of the history, which has all its
-- Adds. It holds locks in descending order, and a stripe that it holds had no Add since it reached
-- its history.
pub record StateFits (bounds : List KeyBytes) (history : History) (p : SeatState) : Type 0 where
  pub begins : BeginsWith history p.seen
  pub own : own_count p.number history ≡ p.count
  pub own_seen : own_count p.number p.seen ≡ p.count
  pub order : Descends p.holds
  pub reached : 0 < length p.holds → HasReached history p
  pub held : (stripe : ℕ) → 0 < times_held stripe p.holds
      → part_of bounds stripe history ≡ part_of bounds stripe p.reached

-- What a participant knows fits.
pub record KnowledgeFits (setup : Terms) (history : History) (v : Knowledge) : Type 0 where
  pub settled : v.live ≡ true → v.setup ≡ setup
  pub states : (at : ℕ) (p : SeatState) → get_elem? v.states at ≡ maybe.some p
      → StateFits setup.bounds history p
  pub front : BeginsWith history v.front

-- what lies in a slot
abbrev pub StoredStripe : Type 0
StoredStripe = Box Stripe Global

-- A slot is at home, and its cache stands for the state that the history leaves on the stripe.
abbrev pub IsHome : Terms → History → List (maybe.Option StoredStripe) → ℕ → Type 0
IsHome setup history homes stripe = (x : StoredStripe)
    × (get_elem? homes stripe ≡ maybe.some (maybe.some x))
    × IsStateOn setup stripe history x.value.cache

-- There is one legal history. What each participant knows fits, and each seat has one state. Where
-- the lock of a stripe is free, nobody holds it, and the stripe is at home. Else one seat holds it.
pub record StripesRule (setup : Terms) (s : State StoredStripe Knowledge) : Type 0 where
  pub history : History
  pub legal : IsLegal setup.config setup.seats history
  pub wide : length s.words ≡ word_count (stripe_count setup.bounds)
  pub deep : length s.homes ≡ stripe_count setup.bounds
  pub views : (id : ℕ) (v : Knowledge) → get_elem? s.views id ≡ maybe.some v
      → KnowledgeFits setup history v
  pub each : (number : ℕ) → sum_by (states_of number) s.views ≡ one_if (nat_lt number setup.seats)
  pub locks : (stripe : ℕ) → sum_by (holders stripe) s.views
      ≡ one_if (nat_lt 0 (slice_index s.words (lock_word stripe)))
  pub homes : (stripe : ℕ) → stripe < stripe_count setup.bounds
      → slice_index s.words (lock_word stripe) ≡ 0 → IsHome setup history s.homes stripe
