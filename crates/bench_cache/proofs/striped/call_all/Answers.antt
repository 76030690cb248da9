-- Proves the contract of `call_all`. Has each seat make its calls in a thread of its own, and gives
-- what is measured of them.
use denote.RattleType.{RattleType}
use denote.Ref.{ShrRef}
use denote.Param.{param}
use denote.Param.Send.{IsSend, IsSync, sendable, shr_sync}
use mir.Syntax.{Lifetime}
use base.Fml.{Lft}
use Rattle.std.proofs.Crossing.{crosses}
use Rattle.tsc_cache.proofs.Crossing.{span_syncs}
use Rattle.tsc_striped.proofs.Crossing.{seat_sends, striped_cache_syncs}
use Rattle.bench_cache.specs.contracts.calls.Trial.{the_row as trial}
use Rattle.bench_cache.proofs.striped.call_all.Goals as goal

trial_syncs : IsSync trial
trial_syncs = search (sendable, crosses) depth 20

-- a borrowed handle may be shared
handle_syncs : (R : RattleType) → IsSync (param 0 R) → (ℓ : Lifetime) (κ : Lft) →
    IsSync (ShrRef ℓ κ (param 0 R))
handle_syncs R s ℓ κ = shr_sync ℓ κ (param 0 R) s

pub map_vec-reported-requires-send-J : goal.map_vec-reported-requires-send-J
map_vec-reported-requires-send-J g c κs within = search (sendable, crosses, seat_sends) depth 20

pub map_vec-reported-requires-send-X : goal.map_vec-reported-requires-send-X
map_vec-reported-requires-send-X g c κs within = search (sendable, crosses) depth 20

pub map_vec-reported-requires-sync-F : goal.map_vec-reported-requires-sync-F
map_vec-reported-requires-sync-F g c κs within =
    search (
      sendable,
      crosses,
      handle_syncs g.row.R c.type_bounds.sync-R,
      striped_cache_syncs,
      span_syncs,
      trial_syncs,
    ) depth 20
