-- Workers can go to other threads, and leases can be looked at from several.
use denote.RattleType.{RattleType}
use denote.Ref.{ShrRef}
use denote.Struct.Field.{row_field}
use denote.Struct.Tuple.{type_at, TupleAt}
use denote.Param.Send.{IsSend, IsSync, sendable, shr_sync}
use denote.Param.SendFields.{declared_send, declared_sync, variants_send, variants_sync}
use denote.Param.SendFields.{as_row_send, as_row_sync}
use mathlib.Core.List.{List, [], ◌∷◌}
use mir.Syntax.{Sym, Lifetime}
use base.Fml.{Lft}
use Rattle.std.proofs.Crossing.{crosses}
use Rattle.std.specs.contracts.alloc.Global.{the_row as heap}
use Rattle.std.specs.contracts.result.Result.{the_row as result}
use Rattle.anyhow.specs.contracts.error.Error.{the_row as error}
use Rattle.timestamp_cache.specs.contracts.Timestamp.{the_row as timestamp}
use Rattle.timestamp_cache.specs.contracts.Value.{the_row as value}
use Rattle.tsc_cache.proofs.Crossing.{span_sends}
use Rattle.tsc_shared.proofs.Crossing.{seat_sends, shared_cache_syncs}
use Rattle.tsc_striped.proofs.Crossing.{seat_sends as striped_seat_sends, striped_cache_syncs}
use Rattle.example_lease_holder.specs.declared.lease.Range.{Ghosts}
use Rattle.example_lease_holder.specs.contracts.reads.ReadSeat.{the_row as read_seat}
use Rattle.example_lease_holder.specs.contracts.reads.ReadCache.{the_row as read_cache}
use Rattle.example_lease_holder.specs.contracts.lease.RangeSeat.{the_row as range_seat}
use Rattle.example_lease_holder.specs.contracts.lease.Version.{the_row as version}
use Rattle.example_lease_holder.specs.contracts.lease.Held.{the_row as held}
use Rattle.example_lease_holder.specs.contracts.lease.Latch.{the_row as latch}
use Rattle.example_lease_holder.specs.contracts.lease.Lease.{the_row as lease}
use Rattle.example_lease_holder.specs.contracts.Plan.{the_row as plan}
use Rattle.example_lease_holder.specs.contracts.Worker.{the_row as worker}
use Rattle.example_lease_holder.specs.contracts.Turn.{the_row as turn}

timestamp_sends : IsSend timestamp
timestamp_sends = search (sendable, crosses) depth 20

value_sends : IsSend value
value_sends = search (sendable, crosses) depth 20

version_sends : IsSend version
version_sends = search (sendable, crosses, timestamp_sends) depth 20

plan_syncs : IsSync plan
plan_syncs = search (sendable, crosses) depth 20

error_sends : IsSend error
error_sends = search (sendable, declared_send, as_row_send, crosses) depth 20

heap_syncs : IsSync heap
heap_syncs = search (sendable, crosses) depth 20

turn_syncs : IsSync turn
turn_syncs = search (sendable, crosses) depth 20

read_seat_sends : IsSend read_seat
read_seat_sends = search (sendable, variants_send, crosses, seat_sends, striped_seat_sends) depth 20

read_cache_syncs : IsSync read_cache
read_cache_syncs = search (
  sendable,
  variants_sync,
  crosses,
  shared_cache_syncs,
  striped_cache_syncs,
) depth 20

-- of whatever range they are
module _ (T : RattleType) (g : Ghosts T.Denot) where
  range_seat_sends : IsSend (range_seat T g)
  range_seat_sends = search (sendable, declared_send, as_row_send, crosses, read_seat_sends) depth 20

  held_sends : IsSend (held T g)
  held_sends = search (
    sendable,
    declared_send,
    as_row_send,
    crosses,
    span_sends,
    version_sends,
    value_sends,
    range_seat_sends,
  ) depth 20

  latch_syncs : IsSync (latch T g)
  latch_syncs = search (sendable, declared_sync, as_row_sync, crosses, held_sends) depth 20

  lease_syncs : IsSync (lease T g)
  lease_syncs = search (
    sendable,
    declared_sync,
    as_row_sync,
    crosses,
    read_cache_syncs,
    latch_syncs,
  ) depth 20

  pub worker_sends : IsSend (worker T g)
  worker_sends = search (
    sendable,
    declared_send,
    as_row_send,
    crosses,
    timestamp_sends,
    plan_syncs,
    range_seat_sends,
  ) depth 20

  -- also where it came through its turn, or not
  pub ended_sends : IsSend (result (worker T g) error)
  ended_sends = search (
    sendable,
    variants_send,
    crosses,
    worker_sends,
    error_sends,
  ) depth 20

  -- what the threads borrow: a handle, the heap, a lease and a turn
  module _ (name : Sym) (R : RattleType) (ℓ ℓ' ℓ'' ℓ''' : Lifetime) (κ κ' κ'' κ''' : Lft) where
    abbrev pub borrowed : List RattleType
    borrowed =
        ShrRef ℓ κ R ∷ ShrRef ℓ' κ' heap ∷ ShrRef ℓ'' κ'' (lease T g) ∷ ShrRef ℓ''' κ''' turn ∷ []

    pub borrowed_syncs : IsSync R → IsSync (TupleAt name borrowed)
    borrowed_syncs handles = declared_sync (type_at name borrowed) (
      as_row_sync (row_field (ShrRef ℓ κ R)) (shr_sync ℓ κ R handles),
      (
        as_row_sync (row_field (ShrRef ℓ' κ' heap)) (shr_sync ℓ' κ' heap heap_syncs),
        (
          as_row_sync (row_field (ShrRef ℓ'' κ'' (lease T g)))
              (shr_sync ℓ'' κ'' (lease T g) lease_syncs),
          (as_row_sync (row_field (ShrRef ℓ''' κ''' turn)) (shr_sync ℓ''' κ''' turn turn_syncs), tt),
        ),
      ),
    )
