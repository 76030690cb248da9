-- A seat works with the same when its participant takes a step.
use Rattle.std.proofs.Common.{◌≡◌, ◌∙◌, sym, ap, subst, ℕ, ◌<◌}
use Rattle.atomic_table.specs.Seated.{TableId}
use Rattle.tsc_left_right.specs.declared.replicated.Replicated.{Ghosts}
use Rattle.tsc_left_right.specs.declared.table.Setup.{Setup}
use Rattle.tsc_left_right.specs.declared.table.Knowledge.{Knowledge}
use Rattle.tsc_left_right.specs.declared.table.WriterState.{WriterState}
use Rattle.tsc_left_right.specs.Steps.{At, number_of}
use Rattle.tsc_left_right.specs.Participating.{Participant, IsSeatOf, IsWriting, HasAcquired}
use Rattle.tsc_left_right.proofs.Calls.{still_of}

module _ {C O S E : Type 0} (table : TableId) (setup : Setup S) (number : ℕ)
    (p q : Participant C O S E) where
  still_seat : IsSeatOf table setup number p → q.table_id ≡ p.table_id
      → q.me.0.setup ≡ p.me.0.setup → number_of q.me.0 ≡ number_of p.me.0
      → IsSeatOf table setup number q
  still_seat seat same as_set same_number = record {
    of = still_of p q table seat.of same as_set;
    setup_is = seat.setup_is ∙ sym as_set;
    number_is = (
      seat.number_is.0 ∙ sym same_number,
      subst (λ (t : Setup S). number < t.seats) (sym as_set) seat.number_is.1,
    );
  }

  -- It has acquired the lock.
  pub seat_acquired : {P : Type 0} (R : Ghosts P C O S E) (state : WriterState C O)
      → IsSeatOf table setup number p → q.table_id ≡ p.table_id
      → HasAcquired R p.me.0 q.me state → IsSeatOf table setup number q
  seat_acquired R state seat same a = still_seat seat same
      (ap (λ (w : Knowledge S E). w.setup) a.0.after) (ap number_of a.0.after)

  -- It has cleared some seats.
  pub seat_cleared : (cleared : ℕ) → IsSeatOf table setup number p → q.table_id ≡ p.table_id
      → IsWriting p.me.0 q.me cleared → IsSeatOf table setup number q
  seat_cleared cleared seat same w = still_seat seat same
      (ap (λ (m : At C O S E). m.0.setup) w.is) (ap (λ (m : At C O S E). number_of m.0) w.is)
