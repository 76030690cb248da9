-- The end of a cache that others may still refer to. (For private contracts.)
use Rattle.std.specs.Prelude.{◌≡◌, ℕ, ◌≤◌, List, length, true}
use Rattle.atomic_table.specs.Table.{Step}
use Rattle.tsc_cache.specs.CacheView.{CacheView}
use Rattle.tsc_left_right.specs.declared.table.Slot.{Slot}
use Rattle.tsc_left_right.specs.Rule.{holders}
use Rattle.tsc_left_right.specs.Closing.{IsEnd}
use Rattle.tsc_shared.specs.declared.adds.UnappliedAdd.{UnappliedAdd}
use Rattle.tsc_shared.specs.Caches.{At, Knowledge, Setup, SeatState, WriterState, caches}

-- A participant keeps the states of all seats, and none of them holds the writer lock.
pub record KeepsAll (v : Knowledge) : Type 0 where
  pub live : v.live ≡ true
  pub none : holders v ≡ 0
  pub all : length v.states ≡ v.setup.seats

-- What lies in the table is after one history, which is within the limit and fits these states.
pub record EndsAs (setup : Setup) (states : List SeatState) : Type 0 where
  pub state : WriterState
  pub end_is : IsEnd caches setup states state
  pub limit : length end_is.history ≤ setup.limit

-- Who keeps all states sees the end.
abbrev pub sees_end : Step (Slot CacheView UnappliedAdd) → At → ℕ → At → Type 0
sees_end st me found me' = KeepsAll me.0 → EndsAs me.0.setup me.0.states
