-- A participant, and what it has in hand: what the functions ask for, and leave.
use Rattle.std.specs.Prelude.{◌≡◌, ◌<◌, ℕ, List, [], ◌∷◌, ◌++◌, length}
use Rattle.atomic_table.specs.Seated.{TableId}
use Rattle.atomic_table.specs.Table.{rest}
use Rattle.atomic_table.specs.declared.shared.Seat.{Seat as TableSeat}
use Rattle.tsc_span.specs.Span.{KeyBytes}
use Rattle.tsc_cache.specs.History.{CanBeAdded, CanAllBeAdded}
use Rattle.tsc_stripe_table.specs.declared.table.Knowledge.{Knowledge}
use Rattle.tsc_stripe_table.specs.Stripes.{stripe_count, IsStateOn}
use Rattle.tsc_stripe_table.specs.Rule.{StoredStripe, word_count, keeping, Descends}
use Rattle.tsc_stripe_table.specs.Steps.{At, state_in, with_state, number_of, seen_of, count_of}
use Rattle.tsc_stripe_table.specs.Steps.{holds_of, reached_of, seated, front_of, earlier}
use Rattle.tsc_stripe_table.specs.Steps.{first_state, mark_of, entry_of, entry_of_batch}
use Rattle.tsc_stripe_table.specs.Steps.{IsCovered}

abbrev pub Participant : Type 0
Participant = TableSeat StoredStripe Knowledge

-- the table has a lock and a slot for each stripe
pub record IsSized (table : TableId) (bounds : List KeyBytes) : Type 0 where
  pub words : table.words ≡ word_count (stripe_count bounds)
  pub slots : table.slots ≡ stripe_count bounds

-- one that takes part in this table
pub record IsOf (p : Participant) (id : TableId) : Type 0 where
  pub table : p.table_id ≡ id
  pub sized : IsSized id p.me.0.setup.bounds

-- a participant that keeps the state of one seat
abbrev pub KeepsOne : Knowledge → Type 0
KeepsOne v = v ≡ with_state v (state_in v)

-- a participant that keeps states, and no front
abbrev pub KeepsStates : Knowledge → Type 0
KeepsStates v = v ≡ keeping v.setup v.states

-- the participant of a seat between two calls
abbrev pub IsAtRest : At → Type 0
IsAtRest me = me ≡ (seated me.0.setup (number_of me.0) (seen_of me.0) (count_of me.0), [])

-- a participant that keeps the first of the states in v
abbrev pub IsFirstOf : Knowledge → At → Type 0
IsFirstOf v me = me ≡ (keeping v.setup (first_state v.states ∷ []), [])

-- a front
abbrev pub IsFront : At → Type 0
IsFront me = me ≡ (front_of me.0.setup me.0.front, [])

-- a stripe of the table that this participant is of
abbrev pub IsStripe : Knowledge → ℕ → Type 0
IsStripe v stripe = stripe < stripe_count v.setup.bounds

-- The seat may acquire the lock of a stripe of the table, which is above all that it holds.
pub record CanAcquire (v : Knowledge) (stripe : ℕ) : Type 0 where
  pub one : KeepsOne v
  pub is_stripe : IsStripe v stripe
  pub order : Descends (stripe ∷ holds_of v)

-- The seat acquired the lock of a stripe last, and has that stripe in hand.
pub record HasStripe (me : At) (stripe : ℕ) (x : StoredStripe) : Type 0 where
  pub one : KeepsOne me.0
  pub is_stripe : IsStripe me.0 stripe
  pub holds : holds_of me.0 ≡ stripe ∷ earlier (holds_of me.0)
  pub hand : me.1 ≡ (stripe, x) ∷ rest me.1

-- It may lay the stripe back as after the history that it has reached.
pub record CanRelease (me : At) (stripe : ℕ) (x : StoredStripe) : Type 0 where
  pub has : HasStripe me stripe x
  pub stands : IsStateOn me.0.setup stripe (reached_of me.0) x.value.cache

-- It may lay the stripe back as after the Add that was made there. The seat holds all stripes on
-- which the Add lies.
pub record CanCommit (me : At) (stripe : ℕ) (x : StoredStripe) : Type 0 where
  pub has : HasStripe me stripe x
  pub made : CanBeAdded me.0.setup.config (mark_of x.value.pending) x.value.pending.moment.value
  pub covered : IsCovered me.0.setup.bounds (holds_of me.0)
      (entry_of (state_in me.0) x.value.pending)
  pub stands : IsStateOn me.0.setup stripe
      (reached_of me.0 ++ entry_of (state_in me.0) x.value.pending ∷ []) x.value.cache

-- The same, for a batch that was made there.
pub record CanCommitBatch (me : At) (stripe : ℕ) (x : StoredStripe) : Type 0 where
  pub has : HasStripe me stripe x
  pub made : CanAllBeAdded me.0.setup.config x.value.batch.marks.value.items
      x.value.batch.moment.value
  pub covered : IsCovered me.0.setup.bounds (holds_of me.0)
      (entry_of_batch (state_in me.0) x.value.batch)
  pub stands : IsStateOn me.0.setup stripe
      (reached_of me.0 ++ entry_of_batch (state_in me.0) x.value.batch ∷ []) x.value.cache
