-- Proves the contract of `all_take`. Has all threads take a turn at once.
use denote.Exit.{no}
use denote.Param.{param}
use denote.Param.Send.{param_send, arg_send, param_sync, arg_sync}
use Rattle.std.proofs.Common.{◌≡◌, length, slice_index_or, sym, subst, rules}
use Rattle.std.specs.Prelude.{IfOk}
use Rattle.example_lease_holder.specs.Turns.{HasTaken}
use Rattle.example_lease_holder.proofs.Turns.{if_both, at_each_place}
use Rattle.example_lease_holder.proofs.Crossing.{worker_sends, ended_sends, borrowed_syncs}
use Rattle.example_lease_holder.proofs.all_take.Goals as goal

pub returns : goal.returns
returns g c =
    let jobs = c.args.workers.items in
    if_both _ _ _ c.map_vec.result c.map_vec.ensures.len c.map_vec.ensures.each (λ ended len each.
    let long : length ended.items ≡ length jobs = search (rules, len) in
    at_each_place (λ x r. IfOk r (HasTaken c.args.turn x)) jobs ended.items long (λ i d e below.
    let job = (each i e below).1 in
    let met = job.call.met in
    subst (λ x. IfOk (slice_index_or ended.items i e) (HasTaken c.args.turn x)) (sym (job.job_is d))
    (search (rules, met))))

pub map_vec-requires-send-J : goal.map_vec-requires-send-J
map_vec-requires-send-J g c κs within =
    param_send 1 _ (arg_send _ no _ (worker_sends (param 0 g.row.G) g.G.Range))

pub map_vec-requires-send-X : goal.map_vec-requires-send-X
map_vec-requires-send-X g c κs within =
    param_send 2 _ (arg_send _ no _ (ended_sends (param 0 g.row.G) g.G.Range))

pub map_vec-requires-sync-F : goal.map_vec-requires-sync-F
map_vec-requires-sync-F g c κs within =
    param_sync 4 _ (arg_sync _ no _ (borrowed_syncs (param 0 g.row.G) g.G.Range _ (param 1 g.row.R)
    _ _ _ _ _ _ _ _ c.type_bounds.sync-R))
