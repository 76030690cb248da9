-- Proves the contract of `start_list`. Starts a thread that makes the calls of a list, at the seat
-- of the list's number.
use Rattle.std.proofs.Crossing.{crosses}
use denote.Param.Send.{sendable}
use Rattle.tsc_shared.proofs.Crossing.{seat_sends, shared_cache_syncs}
use Rattle.tsc_run.proofs.Crossing.{call_syncs, list_run_sends}
use Rattle.tsc_run.proofs.start.start_list.Goals as goal

pub spawn_with-requires-send-F : goal.spawn_with-requires-send-F
spawn_with-requires-send-F g c κs within =
    search (sendable, crosses, seat_sends, shared_cache_syncs, call_syncs) depth 20

pub spawn_with-requires-send-T : goal.spawn_with-requires-send-T
spawn_with-requires-send-T g c κs within = search (sendable, crosses, list_run_sends) depth 20
