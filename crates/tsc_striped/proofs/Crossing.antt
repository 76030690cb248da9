-- Seats, dealers and fronts can go to another thread, and the cache can be looked at from several.
use denote.RattleType.{RattleType}
use denote.Param.Send.{IsSend, IsSync, Frees, sendable, part_keyless}
use denote.Param.SendFields.{declared_send, declared_sync, as_row_send, as_row_sync}
use denote.Struct.Struct.{Struct}
use denote.Struct.Owning.{shape}
use Rattle.std.proofs.Crossing.{crosses}
use Rattle.std.specs.declared.alloc.Allocator.{Ghosts as HeapGhosts}
use Rattle.std.specs.contracts.snapshot.Snapshot.{the_row as snapshot}
use Rattle.atomic_table.specs.declared.shared.TableRule.{Ghosts as RuleGhosts}
use Rattle.atomic_table.specs.contracts.owned.Table.{the_row as table}
use Rattle.atomic_table.specs.contracts.shared.Shared.{the_row as the_shared}
use Rattle.atomic_table.specs.contracts.shared.Shared.{the_type as shared_type}
use Rattle.atomic_table.specs.contracts.send_lease.SendLease.{the_row as send_lease}
use Rattle.atomic_table.proofs.Sent.{seat_keyless, owns_keyless, shares_keyless}
use Rattle.atomic_table.proofs.Rights.{right_send}
use Rattle.tsc_cache.proofs.Crossing.{config_sends, config_syncs, cache_sends, cache_syncs}
use Rattle.tsc_cache.proofs.Crossing.{key_prefix_sends, key_prefix_syncs}
use Rattle.tsc_stripe_table.specs.contracts.stripe.PendingAdd.{the_row as pending}
use Rattle.tsc_stripe_table.specs.contracts.stripe.PendingBatch.{the_row as pending_batch}
use Rattle.tsc_stripe_table.specs.contracts.stripe.Stripe.{the_row as stripe}
use Rattle.tsc_stripe_table.specs.contracts.table.Setup.{the_row as setup}
use Rattle.tsc_striped.specs.contracts.prefixes.BoundPrefix.{the_row as bound_prefix}
use Rattle.tsc_striped.specs.contracts.prefixes.Prefixes.{the_row as prefixes}
use Rattle.tsc_striped.specs.contracts.seat.Seat.{the_row as seat}
use Rattle.tsc_striped.specs.contracts.seat.Front.{the_row as front}
use Rattle.tsc_striped.specs.contracts.seat.Dealer.{the_row as dealer}
use Rattle.tsc_striped.specs.contracts.striped.StripedCache.{the_row as striped_cache}

-- what a proof alone sees of a value crosses with it
snapshot_send : (Y : RattleType) → IsSend (snapshot Y)
snapshot_send Y = record {
  owned = λ d vs. ((λ vss. (tt, ((λ uss. (tt, tt)), tt))), tt);
  leaving = λ k f vs. tt;
}

snapshot_sync : (Y : RattleType) → IsSync (snapshot Y)
snapshot_sync Y = record {
  shared = λ d b o κ q. part_keyless (snapshot Y) (snapshot_send Y) q d b o;
}

setup_sends : IsSend setup
setup_sends = search (sendable, crosses, config_sends, snapshot_send) depth 20

setup_syncs : IsSync setup
setup_syncs = search (sendable, crosses, config_syncs, snapshot_sync) depth 20

pending_sends : IsSend pending
pending_sends = search (sendable, crosses, declared_send, snapshot_send) depth 20

pending_batch_sends : IsSend pending_batch
pending_batch_sends = search (sendable, crosses, declared_send, snapshot_send) depth 20

stripe_sends : IsSend stripe
stripe_sends = search (
  sendable,
  crosses,
  declared_send,
  as_row_send,
  cache_sends,
  pending_sends,
  pending_batch_sends,
) depth 20

bound_prefix_sends : IsSend bound_prefix
bound_prefix_sends = search (sendable, crosses, key_prefix_sends) depth 20

prefixes_sends : IsSend prefixes
prefixes_sends = search (sendable, crosses, bound_prefix_sends) depth 20

bound_prefix_syncs : IsSync bound_prefix
bound_prefix_syncs = search (sendable, crosses, key_prefix_syncs) depth 20

prefixes_syncs : IsSync prefixes
prefixes_syncs = search (sendable, crosses, bound_prefix_syncs) depth 20

-- a table, over whatever its slots hold
module _ (S V K P A : RattleType) (rule : RuleGhosts P.Denot S.Denot V.Denot K.Denot)
    (heap : HeapGhosts A.Denot) where
  steps_send : IsSend S → IsSend (the_shared S V K P rule)
  steps_send s = search (sendable, owns_keyless, s) depth 20

  steps_sync : IsSend S → IsSync (the_shared S V K P rule)
  steps_sync s = record {
    shared = λ t b o κ. (
      plain_fields.shared (t.words, (t.slots, (tt, tt))) b o κ,
      shares_keyless S s V.coded.code t.table_id (rule.holds t.key) t.words t.slots κ,
    );
  }
    where
      plain_fields : IsSync (Struct (shape (shared_type S V K P rule)))
      plain_fields = search sendable depth 20

  table_sends : IsSend S → IsSend A → Frees heap heap.dealloc_token
      → IsSend (table S V K P A rule heap)
  table_sends s a f = search (
    sendable,
    declared_send,
    as_row_send,
    steps_send,
    right_send,
    s,
    a,
    f,
  ) depth 20

  -- who looks at the right to free a table's memory has a part of what who owns it has
  right_syncs : Frees heap heap.dealloc_token → (R : RattleType) → IsSync (send_lease R A heap)
  right_syncs f R = record {
    shared = λ x b o κ q. part_keyless (send_lease R A heap) (right_send R A heap f) q x b o;
  }

  table_syncs : IsSend S → IsSync A → Frees heap heap.dealloc_token
      → IsSync (table S V K P A rule heap)
  table_syncs s a f = search (
    sendable,
    declared_sync,
    as_row_sync,
    steps_sync,
    right_syncs f,
    s,
    a,
  ) depth 20

pub seat_sends : IsSend seat
seat_sends = search (sendable, crosses, seat_keyless, stripe_sends) depth 20

pub front_sends : IsSend front
front_sends = search (sendable, crosses, seat_keyless, stripe_sends) depth 20

pub dealer_sends : IsSend dealer
dealer_sends = search (sendable, crosses, seat_keyless, stripe_sends) depth 20

pub striped_cache_sends : IsSend striped_cache
striped_cache_sends = search (
  sendable,
  declared_send,
  as_row_send,
  table_sends,
  stripe_sends,
  setup_sends,
  prefixes_sends,
  cache_sends,
  crosses,
) depth 20

pub striped_cache_syncs : IsSync striped_cache
striped_cache_syncs = search (
  sendable,
  declared_sync,
  as_row_sync,
  table_syncs,
  stripe_sends,
  setup_syncs,
  prefixes_syncs,
  cache_syncs,
  crosses,
) depth 20
