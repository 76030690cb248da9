-- Proves the contract of `serve_all`. Has each teller serve on a thread of its own.
use denote.RattleType.{RattleType}
use denote.Ref.{ShrRef}
use denote.Param.{param}
use denote.Param.Send.{IsSend, IsSync, sendable, shr_sync}
use denote.Param.SendFields.{declared_sync, as_row_sync}
use mir.Syntax.{Lifetime}
use base.Fml.{Lft}
use Rattle.std.proofs.Common.{arith, rules}
use Rattle.std.proofs.Crossing.{crosses}
use Rattle.mvcc_shared.proofs.Crossing.{client_sends, shared_range_syncs}
use Rattle.example_bank.specs.contracts.bank.Bank.{the_row as bank}
use Rattle.example_bank.specs.contracts.tellers.Teller.{the_row as teller}
use Rattle.example_bank.proofs.Serving.{if_both}
use Rattle.example_bank.proofs.serve_all.Goals as goal

bank_syncs : IsSync bank
bank_syncs = search (sendable, declared_sync, as_row_sync, shared_range_syncs, crosses) depth 20

teller_sends : IsSend teller
teller_sends = search (sendable, client_sends, crosses) depth 20

-- a borrowed handle may be shared
handle_syncs : (R : RattleType) → IsSync (param 0 R) → (ℓ : Lifetime) (κ : Lft) →
    IsSync (ShrRef ℓ κ (param 0 R))
handle_syncs R s ℓ κ = shr_sync ℓ κ (param 0 R) s

pub map_vec-requires-send-J : goal.map_vec-requires-send-J
map_vec-requires-send-J g c κs within = search (sendable, crosses, teller_sends) depth 20

pub map_vec-requires-send-X : goal.map_vec-requires-send-X
map_vec-requires-send-X g c κs within = search (sendable, crosses, teller_sends) depth 20

pub map_vec-requires-sync-F : goal.map_vec-requires-sync-F
map_vec-requires-sync-F g c κs within =
    search (sendable, crosses, handle_syncs g.row.R c.type_bounds.sync-R, bank_syncs) depth 20

pub returns : goal.returns
returns g c =
    if_both _ _ _ c.map_vec.result c.map_vec.ensures.len c.map_vec.ensures.each
    (λ ended len each. λ i d below.
    let job = (each i d (omega (arith, len, below))).1 in
    let met = job.call.met in
    search (rules, met))
