-- A participant, and what it has in hand: what the functions ask for, and leave.
use Rattle.std.specs.Prelude.{◌≡◌, ◌<◌, ◌==◌, ℕ, List, [], ◌∷◌, ◌++◌}
use Rattle.std.specs.List.{sum_by}
use mathlib.Core.Option as maybe
use lib.ListN.{get_elem?}
use Rattle.atomic_table.specs.Seated.{TableId}
use Rattle.atomic_table.specs.declared.shared.Seat.{Seat as TableSeat}
use Rattle.mvcc_range.specs.Steps.{RangeView}
use Rattle.mvcc_shared.specs.declared.served.Served.{Served}
use Rattle.mvcc_shared.specs.declared.table.ClientState.{ClientState}
use Rattle.mvcc_shared.specs.declared.table.Knowledge.{Knowledge}
use Rattle.mvcc_shared.specs.History.{
  Call,
  History,
  Terms,
  Makes,
  IsLegal,
  BeginsWith,
  calls_of,
  range_after,
  log_of,
  entries_of,
}
use Rattle.mvcc_shared.specs.Pending.{call_of}
use Rattle.mvcc_shared.specs.Rule.{StoredRange, keeping, one_if, StateFits, IsAfter}
use Rattle.mvcc_shared.specs.Steps.{At, number_of, seen_of, resting, holding, front_of}

abbrev pub Participant : Type 0
Participant = TableSeat StoredRange Knowledge

-- the table has a word and a slot
pub record IsSized (table : TableId) : Type 0 where
  pub words : table.words ≡ 1
  pub slots : table.slots ≡ 1

-- one that takes part in this table
pub record IsOf (p : Participant) (id : TableId) : Type 0 where
  pub table : p.table_id ≡ id
  pub sized : IsSized id

-- a participant that keeps states, and no front
abbrev pub KeepsStates : Knowledge → Type 0
KeepsStates v = v ≡ keeping v.setup v.states

-- the participant of a client between two calls
abbrev pub IsAtRest : At → Type 0
IsAtRest me = me ≡ (resting me.0.setup (number_of me.0) (seen_of me.0), [])

-- a front
abbrev pub IsFront : At → Type 0
IsFront me = me ≡ (front_of me.0.setup me.0.front, [])

-- A client holds the lock, and has this in hand, of which a call was made: the range is what that
-- call made of the one before it, and the log has what the call adds.
pub record CanRelease (me : At) (x : StoredRange) : Type 0 where
  pub holds : me ≡ (holding me.0.setup (number_of me.0) (seen_of me.0), (0, x) ∷ [])
  pub made : Makes (range_after me.0.setup.opened (seen_of me.0)) (call_of x.value.pending)
      x.value.range
  pub log : x.value.log.items ≡ log_of (seen_of me.0) ++ entries_of (call_of x.value.pending)

-- A client has made a call, which is the next one after a history that begins with all that the
-- client had seen. Of the call, and the range before and after it, this holds.
pub record HasCalled (me me' : At) (holds : RangeView → Call → RangeView → Type 0) : Type 0 where
  pub before : History
  pub call : Call
  pub range : RangeView
  pub after : me' ≡ (
    resting me.0.setup (number_of me.0) (before
        ++ record { client = number_of me.0; call = call; range = range } ∷ []),
    [],
  )
  pub begins : BeginsWith before (seen_of me.0)
  pub own : calls_of (number_of me.0) before ≡ calls_of (number_of me.0) (seen_of me.0)
  pub legal : IsLegal me.0.setup before
  pub made : Makes (range_after me.0.setup.opened before) call range
  pub found : holds (range_after me.0.setup.opened before) call range

-- At the end each client has one of these states. The range and its log are what one history
-- leaves, which fits all states.
pub record IsEnd (setup : Terms) (states : List ClientState) (served : Served) : Type 0 where
  pub each : (number : ℕ) → number < setup.clients
      → sum_by (λ (p : ClientState). one_if (p.number == number)) states ≡ 1
  pub history : History
  pub legal : IsLegal setup history
  pub stands : IsAfter setup history served
  pub fits : (i : ℕ) (p : ClientState) → get_elem? states i ≡ maybe.some p → StateFits history p
