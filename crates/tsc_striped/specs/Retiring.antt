-- The end of a cache that others may still refer to. (For private contracts.)
use Rattle.std.specs.Prelude.{◌≡◌, ℕ, List, length, true}
use Rattle.atomic_table.specs.Table.{Step}
use Rattle.tsc_cache.specs.CacheView.{CacheView}
use Rattle.tsc_stripe_table.specs.declared.table.SeatState.{SeatState}
use Rattle.tsc_stripe_table.specs.declared.table.Knowledge.{Knowledge}
use Rattle.tsc_stripe_table.specs.Stripes.{Terms}
use Rattle.tsc_stripe_table.specs.Rule.{StoredStripe, holders}
use Rattle.tsc_stripe_table.specs.Steps.{At}
use Rattle.tsc_stripe_table.specs.Closing.{IsEnd}

-- A participant keeps the states of all seats, and none of them holds a lock.
pub record KeepsAll (v : Knowledge) : Type 0 where
  pub live : v.live ≡ true
  pub none : (stripe : ℕ) → holders stripe v ≡ 0
  pub all : length v.states ≡ v.setup.seats

-- The caches that lie in the table are after one history, which fits these states.
pub record EndsAs (setup : Terms) (states : List SeatState) : Type 0 where
  pub caches : List CacheView
  pub end_is : IsEnd setup states caches

-- Who keeps all states sees the end.
abbrev pub sees_end : Step StoredStripe → At → ℕ → At → Type 0
sees_end st me found me' = KeepsAll me.0 → EndsAs me.0.setup me.0.states
