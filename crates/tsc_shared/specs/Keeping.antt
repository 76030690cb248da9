-- A seat and a front, by the participant that they keep. (For private contracts and the models.)
use Rattle.std.specs.Prelude.{◌≡◌, ℕ, length}
use Rattle.atomic_table.specs.Seated.{TableId}
use Rattle.tsc_left_right.specs.Rule.{at_rest}
use Rattle.tsc_left_right.specs.Steps.{number_of, seen_of, count_of}
use Rattle.tsc_left_right.specs.Participating.{IsAtRest, IsSized}
use Rattle.tsc_shared.specs.Caches.{Setup, SeatState, Participant}
use Rattle.tsc_shared.specs.Seats.{SharedView, SeatView, FrontView, IsSeat}

-- the cache of a table that was made with this setup
abbrev pub shared_view : TableId → Setup → SharedView
shared_view table setup = record {
  table = table;
  config = setup.config;
  seats = setup.seats;
  limit = setup.limit;
}

-- the cache that a participant belongs to
abbrev pub cache_of : Participant → SharedView
cache_of p = shared_view p.table_id p.me.0.setup

abbrev pub seat_view : Participant → SeatView
seat_view p = record {
  cache = cache_of p;
  number = number_of p.me.0;
  count = count_of p.me.0;
  seen = seen_of p.me.0;
}

abbrev pub front_view : Participant → FrontView
front_view p = record { cache = cache_of p; seen = p.me.0.front }

-- A participant keeps the seat with the number `number`, which counts `count` Adds of its own and
-- has seen a history of `seen` Adds.
pub record KeepsSeat (p : Participant) (number count seen : ℕ) : Type 0 where
  pub rest : IsAtRest p.me
  pub number_kept : number ≡ number_of p.me.0
  pub count_kept : count ≡ count_of p.me.0
  pub seen_kept : seen ≡ length (seen_of p.me.0)
  pub seat : IsSeat (seat_view p)
  pub sized : IsSized p.table_id p.me.0.setup.seats

-- the state of a seat
abbrev pub state_of_seat : SeatView → SeatState
state_of_seat seat = at_rest seat.number seat.seen seat.count
