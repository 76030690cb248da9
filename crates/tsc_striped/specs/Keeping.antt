-- A seat, a front and a dealer, by the participant that they keep. (For private contracts and the
-- models.)
use Rattle.std.specs.Prelude.{◌≡◌, ℕ, ◌≤◌, ◌-◌, []}
use Rattle.atomic_table.specs.Seated.{TableId}
use Rattle.tsc_stripe_table.specs.declared.table.SeatState.{SeatState}
use Rattle.tsc_stripe_table.specs.Stripes.{Terms}
use Rattle.tsc_stripe_table.specs.Rule.{at_rest, keeping, fresh_states}
use Rattle.tsc_stripe_table.specs.Steps.{number_of, seen_of, count_of}
use Rattle.tsc_stripe_table.specs.Participating.{Participant, IsAtRest, IsSized}
use Rattle.tsc_striped.specs.Seats.{StripedView, SeatView, FrontView, DealerView, IsSeat}

-- the cache of a table with these terms
abbrev pub striped_view : TableId → Terms → StripedView
striped_view table terms = record { table = table; terms = terms }

-- the cache that a participant belongs to
abbrev pub cache_of : Participant → StripedView
cache_of p = striped_view p.table_id p.me.0.setup

abbrev pub seat_view : Participant → SeatView
seat_view p = record {
  cache = cache_of p;
  number = number_of p.me.0;
  count = count_of p.me.0;
  seen = seen_of p.me.0;
}

abbrev pub front_view : Participant → FrontView
front_view p = record { cache = cache_of p; seen = p.me.0.front }

abbrev pub dealer_view : Participant → ℕ → DealerView
dealer_view p dealt = record { cache = cache_of p; dealt = dealt }

-- A participant keeps the seat with the number `number`, which counts `count` Adds of its own.
pub record KeepsSeat (p : Participant) (number count : ℕ) : Type 0 where
  pub rest : IsAtRest p.me
  pub number_kept : number ≡ number_of p.me.0
  pub count_kept : count ≡ count_of p.me.0
  pub seat : IsSeat (seat_view p)
  pub sized : IsSized p.table_id p.me.0.setup.bounds

-- A participant keeps the states of all seats from a number on.
pub record KeepsOthers (p : Participant) (dealt : ℕ) : Type 0 where
  pub states : p.me ≡ (
    keeping p.me.0.setup (fresh_states dealt (p.me.0.setup.seats - dealt)),
    [],
  )
  pub some : dealt ≤ p.me.0.setup.seats
  pub sized : IsSized p.table_id p.me.0.setup.bounds

-- the state of a seat
abbrev pub state_of_seat : SeatView → SeatState
state_of_seat seat = at_rest seat.number seat.seen seat.count
