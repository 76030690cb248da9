-- Where a replay under way stands, and what calls make of it.
use Rattle.std.specs.Prelude.{◌≡◌, ◌≤◌, ◌+◌, List, length}
use Rattle.tsc_cache.specs.ConfigView.{ConfigView}
use Rattle.tsc_cache.specs.CacheView.{RepresentsState}
use Rattle.tsc_trace_format.specs.declared.trace.Call.{Call}
use Rattle.tsc_trace.specs.Play.{Standing, next_all}
use Rattle.tsc_trace.specs.declared.player.Player.{Player}

-- a player stands where its cache stands for the state, and its count of Adds is that of `at`
pub record StandsAt (p : Player) (config : ConfigView) (at : Standing) : Type 0 where
  pub state : RepresentsState p.cache config at.state
  pub adds : p.adds ≡ at.adds

-- A replay has made some calls: from wherever it stood it stands where they lead, each counts as at
-- most one Add, and the settings stay.
pub record HasMade (old new : Player) (calls : List Call) : Type 0 where
  pub stands : (config : ConfigView) (at : Standing) → StandsAt old config at →
      StandsAt new config (next_all config at calls)
  pub count : new.adds ≤ old.adds + length calls
  pub config : new.cache.config ≡ old.cache.config
