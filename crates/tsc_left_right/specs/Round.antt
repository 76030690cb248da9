-- How a seat's operation is applied. (For private contracts.)
use Rattle.std.specs.Prelude.{◌≡◌, ℕ, ◌+◌, ◌<◌, ◌≤◌, List, [], ◌∷◌, ◌++◌, length, Bool, true, false}
use Rattle.std.specs.Prelude.{Option, Some}
use Rattle.std.specs.Arc.{arc_value}
use Rattle.std.specs.declared.sync.Arc.{Arc}
use Rattle.std.specs.declared.alloc.Global.{Global}
use Rattle.tsc_left_right.specs.declared.replicated.Replicated.{Ghosts}
use Rattle.tsc_left_right.specs.declared.table.WriterState.{WriterState}
use Rattle.tsc_left_right.specs.declared.table.Knowledge.{Knowledge}
use Rattle.tsc_left_right.specs.declared.table.Slot.TheVariants.{Empty}
use Rattle.tsc_left_right.specs.declared.preparing.Aborted.{Aborted}
use Rattle.tsc_left_right.specs.declared.preparing.NotApplied.{NotApplied}
use Rattle.tsc_left_right.specs.declared.preparing.NotApplied.TheVariants as why
use Rattle.tsc_left_right.specs.declared.round.Outcome.{Outcome}
use Rattle.tsc_left_right.specs.declared.round.Outcome.TheVariants.{Busy, Made, Refused}
use Rattle.tsc_left_right.specs.Histories.{own_count, BeginsWith, IsLegal}
use Rattle.tsc_left_right.specs.Copies.{CanBe}
use Rattle.tsc_left_right.specs.Rule.{at_rest, IsAfter, HasNoted}
use Rattle.tsc_left_right.specs.Steps.{At, state_in, with_state, seated, number_of, seen_of}
use Rattle.tsc_left_right.specs.Steps.{count_of, acquired}
use Rattle.tsc_left_right.specs.Waiting.{HasEnd}
use Rattle.tsc_left_right.specs.Participating.{IsWriting, HasInstalled, IsReady, MayRelease}
use Rattle.tsc_left_right.specs.Participating.{released_in}

-- what the seat of v knows between two calls
abbrev pub resting : {S E : Type 0} → Knowledge S E → Knowledge S E
resting v = seated v.setup (number_of v) (seen_of v) (count_of v)

-- The copies are swapped.
pub record IsSwapped {C O : Type 0} (old : WriterState C O) (next : Arc C Global) (op : O)
    (new : WriterState C O) : Type 0 where
  pub active : new.copies.active ≡ next
  pub standby : new.copies.standby ≡ Some old.copies.active
  pub lagging : new.copies.lagging ≡ Some op
  pub length : new.length ≡ old.length + 1
  pub head : new.head ≡ old.head
  pub noted : new.noted ≡ old.noted

-- Why a writer does not apply its operation: the history is full; or there was room, and memory was
-- refused, or the tries came to their end.
abbrev pub IsHindered : Option ℕ → ℕ → ℕ → NotApplied → Type 0
IsHindered tries length limit why.HistoryFull = limit ≤ length
IsHindered tries length limit why.NoMemory = length < limit
IsHindered tries length limit why.SeatInside = (length < limit) × HasEnd tries

module _ {A : Type 0} where
  abbrev pub is_applied : Outcome A → Bool
  is_applied Busy = false
  is_applied (Made place answer) = true
  is_applied (Refused seen why) = false

  abbrev pub IsBusy : Outcome A → Type 0
  IsBusy Busy = Unit {0}
  IsBusy (Made place answer) = ⊥
  IsBusy (Refused seen why) = ⊥

module _ {P C O S E : Type 0} (R : Ghosts P C O S E) where
  -- A writer that has just acquired the lock: it has seen all, and nothing is cleared. What the
  -- writer works with is in its hand.
  pub record IsNewWriter (me : At C O S E) (state : WriterState C O) : Type 0 where
    pub head : ℕ
    pub is : me ≡ (
      with_state me.0
          (acquired (at_rest (number_of me.0) (seen_of me.0) (count_of me.0)) (seen_of me.0)
          head state.noted.items),
      (0, Empty) ∷ [],
    )
    pub legal : IsLegal R me.0.setup.config me.0.setup.seats (seen_of me.0)
    pub own : own_count R (number_of me.0) (seen_of me.0) ≡ count_of me.0
    pub limit : length (seen_of me.0) ≤ me.0.setup.limit
    pub is_after : IsAfter R me.0.setup (seen_of me.0) head state
    pub noted : length state.noted.items ≡ me.0.setup.seats

  -- A writer has cleared all seats, and can apply this operation, for which there is room.
  pub record MayPrepare (seats : ℕ) (me : At C O S E) (state : WriterState C O) (op : O) : Type 0
    where
      pub writing : IsWriting me.0 me seats
      pub noted : HasNoted me.0.setup.seats (state_in me.0).noted state
      pub legal : IsLegal R me.0.setup.config me.0.setup.seats (seen_of me.0)
      pub own : own_count R (number_of me.0) (seen_of me.0) ≡ count_of me.0
      pub is_after : IsAfter R me.0.setup (seen_of me.0) (state_in me.0).head state
      pub can : CanBe R me.0.setup op
      pub room : state.length < me.0.setup.limit

  -- All is prepared that is to be published.
  pub record IsReadyToPublish (me : At C O S E) (state : WriterState C O) : Type 0 where
    pub installed : HasInstalled me.0 me (arc_value state.copies.active) state.length
        me.0.setup.seats
    pub ready : IsReady R me.0 state
    pub noted : length state.noted.items ≡ me.0.setup.seats

  -- The writer of v makes no operation, and may release the lock.
  pub record MayLeave (v : Knowledge S E) (me : At C O S E) (state : WriterState C O) : Type 0
    where
      pub release : MayRelease R me state
      pub same : released_in me.0 ≡ released_in v

  -- The writer makes no operation, for one of these reasons.
  pub record IsAborted (tries : Option ℕ) (v : Knowledge S E) (me : At C O S E)
      (left : Aborted C O) : Type 0 where
    pub leave : MayLeave v me left.state.value
    pub why : IsHindered tries (length (seen_of v)) v.setup.limit left.why

  -- None was made. The seat is at rest, and has seen all.
  pub record IsNotApplied (tries : Option ℕ) (v : Knowledge S E) (me : At C O S E) (seen : ℕ)
      (why : NotApplied) : Type 0 where
    pub history : List E
    pub after : me ≡ (seated v.setup (number_of v) history (count_of v), [])
    pub begins : BeginsWith history (seen_of v)
    pub legal : IsLegal R v.setup.config v.setup.seats history
    pub own : own_count R (number_of v) history ≡ count_of v
    pub limit : length history ≤ v.setup.limit
    pub long : seen ≡ length history
    pub why_is : IsHindered tries (length history) v.setup.limit why

  module _ {A : Type 0} (answers : S → List E → O → A) where
    -- The writer of v has its operation prepared.
    pub record IsPrepared (v : Knowledge S E) (me : At C O S E) (op : O) (state : WriterState C O)
        (answer : A) : Type 0 where
      pub ready : IsReadyToPublish me state
      pub lagging : state.copies.lagging ≡ Some op
      pub same : released_in me.0 ≡ released_in v
      pub below : length (seen_of v) < v.setup.limit
      pub answer_is : answer ≡ answers v.setup.config (seen_of v) op

    -- An operation of the seat of v was applied at this place, after a history that begins with all
    -- that it had seen. The seat is at rest.
    pub record IsApplied (v : Knowledge S E) (me : At C O S E) (op : O) (place : ℕ) (answer : A)
        : Type 0 where
      pub before : List E
      pub after : me ≡ (
        seated v.setup (number_of v)
            (before ++ R.entry_of (number_of v) (count_of v) op ∷ []) (count_of v + 1),
        [],
      )
      pub begins : BeginsWith before (seen_of v)
      pub legal : IsLegal R v.setup.config v.setup.seats
          (before ++ R.entry_of (number_of v) (count_of v) op ∷ [])
      pub own : own_count R (number_of v) before ≡ count_of v
      pub below : length before < v.setup.limit
      pub place_is : place ≡ length before
      pub answer_is : answer ≡ answers v.setup.config before op

    -- What became of a seat's operation, which is as asked for.
    abbrev pub IsOutcome : Option ℕ → (O → Type 0) → Knowledge S E → At C O S E → Outcome A
        → Type 0
    IsOutcome tries Asked v me Busy = (me ≡ (resting v, [])) × HasEnd tries
    IsOutcome tries Asked v me (Made place answer) =
        (op : O) × Asked op × IsApplied v me op place answer
    IsOutcome tries Asked v me (Refused seen why) = IsNotApplied tries v me seen why

    -- What became of it, and whether the gate was told of it: once if it was applied, and then the
    -- gate has heard it.
    pub record HasOutcome (tries : Option ℕ) (Asked : O → Type 0) (v : Knowledge S E)
        (me : At C O S E) (reported : Bool) (HasHeard : Type 0) (o : Outcome A) : Type 0 where
      pub is : IsOutcome tries Asked v me o
      pub gate : is_applied o ≡ true → HasHeard
      pub reported_is : reported ≡ is_applied o
