-- A client, a front and a dealer, by the participant that they keep. (For private contracts and the
-- models.)
use Rattle.std.specs.Prelude.{◌≡◌, ℕ, ◌≤◌, ◌-◌, []}
use Rattle.mvcc_range.specs.Steps.{IsOpened}
use Rattle.mvcc_shared.specs.declared.table.ClientState.{ClientState}
use Rattle.mvcc_shared.specs.Rule.{at_rest, keeping, fresh_states}
use Rattle.mvcc_shared.specs.Steps.{number_of, seen_of}
use Rattle.mvcc_shared.specs.Participating.{Participant, IsAtRest, IsSized}
use Rattle.mvcc_shared.specs.Clients.{SharedView, ClientView, FrontView, DealerView, IsClient}

-- the range that a participant belongs to
abbrev pub range_of : Participant → SharedView
range_of p = record { table = p.table_id; terms = p.me.0.setup }

abbrev pub client_view : Participant → ClientView
client_view p = record {
  range = range_of p;
  number = number_of p.me.0;
  seen = seen_of p.me.0;
}

abbrev pub front_view : Participant → FrontView
front_view p = record { range = range_of p; seen = p.me.0.front }

abbrev pub dealer_view : Participant → ℕ → DealerView
dealer_view p dealt = record { range = range_of p; dealt = dealt }

-- A participant keeps a client.
pub record KeepsClient (p : Participant) : Type 0 where
  pub rest : IsAtRest p.me
  pub client : IsClient (client_view p)
  pub sized : IsSized p.table_id

-- A participant keeps the states of all clients from a number on.
pub record KeepsOthers (p : Participant) (dealt : ℕ) : Type 0 where
  pub states : p.me ≡ (
    keeping p.me.0.setup (fresh_states dealt (p.me.0.setup.clients - dealt)),
    [],
  )
  pub some : dealt ≤ p.me.0.setup.clients
  pub opened : IsOpened p.me.0.setup.config p.me.0.setup.opened
  pub sized : IsSized p.table_id

-- the state of a client
abbrev pub state_of_client : ClientView → ClientState
state_of_client c = at_rest c.number c.seen
