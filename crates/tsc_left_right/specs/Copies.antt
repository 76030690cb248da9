-- What the two copies stand for, and what the code owes that makes the next one.
use Rattle.std.specs.Prelude.{◌≡◌, ℕ, ◌<◌, List, [], ◌∷◌, ◌++◌, Option, Some, None}
use Rattle.std.specs.Arc.{arc_value}
use Rattle.std.specs.declared.sync.Arc.{Arc}
use Rattle.std.specs.declared.alloc.Global.{Global}
use Rattle.tsc_left_right.specs.declared.replicated.Replicated.{Ghosts}
use Rattle.tsc_left_right.specs.declared.table.Setup.{Setup}
use Rattle.tsc_left_right.specs.declared.table.Copies.{Copies}
use Rattle.tsc_left_right.specs.Histories.{own_count, IsLegal}

module _ {P C O S E : Type 0} (R : Ghosts P C O S E) where
  -- An operation may come next behind any history, by any seat that it names rightly.
  abbrev pub CanBe : Setup S → O → Type 0
  CanBe setup op = (before : List E) (number count : ℕ) → number < setup.seats
      → own_count R number before ≡ count
      → R.is_next setup.config setup.seats before (R.entry_of number count op)

  -- A copy lacks an operation, if there is one: it stands for what a history makes of the value
  -- without its last entry, which is of that operation.
  abbrev pub LagsBy : S → List E → Option O → C → Type 0
  LagsBy config h None copy = R.stands config h copy
  LagsBy config h (Some op) copy = (before : List E) × (number : ℕ) × (count : ℕ)
      × (h ≡ before ++ R.entry_of number count op ∷ []) × R.stands config before copy

  -- The copy of a handle lacks the operation that lags, where there is a handle.
  abbrev pub HandleLags : S → List E → Option O → Option (Arc C Global) → Type 0
  HandleLags config h lagging None = Unit {0}
  HandleLags config h lagging (Some handle) = LagsBy config h lagging (arc_value handle)

  -- The active copy stands for what a history makes of the value, and the standby copy may lag.
  pub record Stand (config : S) (h : List E) (copies : Copies C O) : Type 0 where
    pub active : R.stands config h (arc_value copies.active)
    pub behind : HandleLags config h copies.lagging copies.standby

  -- The copies stand for what a legal history makes of the value, and this operation may come next
  -- behind it.
  pub record MayTake (copies : Copies C O) (op : O) : Type 0 where
    pub config : S
    pub seats : ℕ
    pub history : List E
    pub legal : IsLegal R config seats history
    pub stand : Stand config history copies
    pub number : ℕ
    pub count : ℕ
    pub next : R.is_next config seats history (R.entry_of number count op)

  -- A copy is the next one after an operation, and this is what that answered, whatever history the
  -- copies stood for.
  pub record IsNextCopy {A : Type 0} (answers : S → List E → O → A) (copies : Copies C O) (op : O)
      (next : C) (answer : A) : Type 0 where
    pub stands : (config : S) (h : List E) (number count : ℕ) → Stand config h copies
        → R.stands config (h ++ R.entry_of number count op ∷ []) next
    pub reported : (config : S) (h : List E) → Stand config h copies
        → answer ≡ answers config h op

  -- The active copy is as it was, and the copies stand for what they stood for.
  pub record StillStand (old new : Copies C O) : Type 0 where
    pub active : new.active ≡ old.active
    pub stand : (config : S) (h : List E) → Stand config h old → Stand config h new
