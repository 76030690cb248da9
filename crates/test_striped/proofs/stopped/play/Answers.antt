-- Proves the contract of `play`. Each seat takes part on a thread of its own.
use denote.RattleType.{RattleType}
use denote.Ref.{ShrRef}
use denote.Param.{param}
use denote.Param.Send.{IsSync, sendable, shr_sync}
use denote.Param.SendFields.{declared_sync, as_row_sync}
use mir.Syntax.{Lifetime}
use base.Fml.{Lft}
use Rattle.std.proofs.Crossing.{crosses}
use Rattle.tsc_cache.proofs.Crossing.{span_syncs}
use Rattle.tsc_striped.proofs.Crossing.{seat_sends, striped_cache_syncs}
use Rattle.test_striped.specs.contracts.held.Hold.{the_row as hold}
use Rattle.test_striped.specs.contracts.stopped.Scene.{the_row as scene}
use Rattle.test_striped.proofs.stopped.play.Goals as goal

hold_syncs : IsSync hold
hold_syncs = search (sendable, crosses) depth 20

scene_syncs : IsSync scene
scene_syncs = search (sendable, declared_sync, as_row_sync, crosses, span_syncs, hold_syncs) depth 20

-- a borrowed handle may be shared
handle_syncs : (R : RattleType) → IsSync (param 0 R) → (ℓ : Lifetime) (κ : Lft) →
    IsSync (ShrRef ℓ κ (param 0 R))
handle_syncs R s ℓ κ = shr_sync ℓ κ (param 0 R) s

pub map_vec-requires-send-J : goal.map_vec-requires-send-J
map_vec-requires-send-J g c κs within = search (sendable, crosses, seat_sends) depth 20

pub map_vec-requires-sync-F : goal.map_vec-requires-sync-F
map_vec-requires-sync-F g c κs within =
    search (
      sendable,
      crosses,
      handle_syncs g.row.R c.type_bounds.sync-R,
      striped_cache_syncs,
      scene_syncs,
    ) depth 20
