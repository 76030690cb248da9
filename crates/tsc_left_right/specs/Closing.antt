-- The end of the table: what lay there is after one history, which fits all seats.
use Rattle.std.specs.Prelude.{◌≡◌, ◌<◌, ◌==◌, ℕ, List}
use Rattle.std.specs.List.{sum_by}
use mathlib.Core.Option as maybe
use lib.ListN.{get_elem?}
use Rattle.tsc_left_right.specs.declared.replicated.Replicated.{Ghosts}
use Rattle.tsc_left_right.specs.declared.table.Setup.{Setup}
use Rattle.tsc_left_right.specs.declared.table.WriterState.{WriterState}
use Rattle.tsc_left_right.specs.declared.table.SeatState.{SeatState}
use Rattle.tsc_left_right.specs.Histories.{own_count, BeginsWith, IsLegal}
use Rattle.tsc_left_right.specs.Rule.{one_if, IsAfter}

module _ {P C O S E : Type 0} (R : Ghosts P C O S E) where
  -- What a seat has seen fits the history, which has all its operations.
  pub record EndFits (h : List E) (p : SeatState E) : Type 0 where
    pub begins : BeginsWith h p.seen
    pub own : own_count R p.number h ≡ p.count

  -- At the end each seat has one of these states, and what lay there is after one history, which
  -- fits them all.
  pub record IsEnd (setup : Setup S) (states : List (SeatState E)) (state : WriterState C O)
      : Type 0 where
    pub each : (number : ℕ) → number < setup.seats
        → sum_by (λ (p : SeatState E). one_if (p.number == number)) states ≡ 1
    pub history : List E
    pub head : ℕ
    pub legal : IsLegal R setup.config setup.seats history
    pub is_after : IsAfter R setup history head state
    pub fits : (i : ℕ) (p : SeatState E) → get_elem? states i ≡ maybe.some p
        → EndFits history p
