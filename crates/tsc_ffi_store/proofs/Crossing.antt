-- What a handle names can go to another thread, and what seats share can be used from several.
use denote.Param.Send.{IsSend, IsSync, sendable}
use denote.Param.SendFields.{declared_send, declared_sync, variants_send, as_row_send, as_row_sync}
use Rattle.std.proofs.Crossing.{crosses}
use Rattle.std.specs.contracts.option.Option.{the_row as option}
use Rattle.atomic_table.proofs.Sent.{seat_keyless}
use Rattle.tsc_cache.proofs.Crossing.{cache_sends}
use Rattle.tsc_left_right.proofs.Crossing.{table_sends, table_syncs}
use Rattle.tsc_shared.proofs.Crossing.{seat_sends, shared_cache_sends, shared_cache_syncs}
use Rattle.tsc_striped.proofs.Crossing.{seat_sends as striped_seat_sends, dealer_sends}
use Rattle.tsc_striped.proofs.Crossing.{striped_cache_sends, striped_cache_syncs}
use Rattle.tsc_ffi_store.specs.contracts.seats.kinds.AnySeat.{the_row as any_seat}
use Rattle.tsc_ffi_store.specs.contracts.seats.kinds.AnyCache.{the_row as any_cache}
use Rattle.tsc_ffi_store.specs.contracts.seats.ending.Ending.{the_row as ending}
use Rattle.tsc_ffi_store.specs.contracts.seats.owner.SharedHandle.{the_row as shared}
use Rattle.tsc_ffi_store.specs.contracts.seats.owner.Owner.{the_row as owner}
use Rattle.tsc_ffi_store.specs.contracts.seats.handle.SeatHandle.{the_row as handle}
use Rattle.tsc_ffi_store.specs.contracts.counts.Counts.{the_row as counts}
use Rattle.tsc_ffi_store.specs.contracts.counts.CountedCache.{the_row as counted_cache}
use Rattle.tsc_ffi_store.specs.contracts.counts.CountedSeat.{the_row as counted_seat}

any_seat_sends : IsSend any_seat
any_seat_sends = search (
  sendable,
  seat_sends,
  striped_seat_sends,
  crosses,
) depth 20

maybe_seat_sends : IsSend (option any_seat)
maybe_seat_sends = search (sendable, variants_send, crosses, any_seat_sends) depth 20

any_cache_sends : IsSend any_cache
any_cache_sends = search (
  sendable,
  shared_cache_sends,
  striped_cache_sends,
  crosses,
) depth 20

any_cache_syncs : IsSync any_cache
any_cache_syncs = search (
  sendable,
  shared_cache_syncs,
  striped_cache_syncs,
  crosses,
) depth 20

ending_sends : IsSend ending
ending_sends = search (
  sendable,
  seat_sends,
  striped_seat_sends,
  dealer_sends,
  crosses,
) depth 20

shared_sends : IsSend shared
shared_sends = search (
  sendable,
  declared_send,
  as_row_send,
  table_sends,
  any_seat_sends,
  any_cache_sends,
  crosses,
) depth 20

shared_syncs : IsSync shared
shared_syncs = search (
  sendable,
  declared_sync,
  as_row_sync,
  table_syncs,
  any_seat_sends,
  any_cache_syncs,
  crosses,
) depth 20

pub owner_sends : IsSend owner
owner_sends = search (
  sendable,
  declared_send,
  as_row_send,
  shared_sends,
  shared_syncs,
  seat_keyless,
  any_seat_sends,
  maybe_seat_sends,
  ending_sends,
  crosses,
) depth 20

pub handle_sends : IsSend handle
handle_sends = search (
  sendable,
  declared_send,
  as_row_send,
  shared_sends,
  shared_syncs,
  seat_keyless,
  any_seat_sends,
  maybe_seat_sends,
  crosses,
) depth 20

counts_send : IsSend counts
counts_send = search (sendable, declared_send, as_row_send, crosses) depth 20

pub counted_cache_sends : IsSend counted_cache
counted_cache_sends = search (
  sendable,
  declared_send,
  cache_sends,
  counts_send,
  crosses,
) depth 20

pub counted_seat_sends : IsSend counted_seat
counted_seat_sends = search (
  sendable,
  declared_send,
  as_row_send,
  handle_sends,
  counts_send,
  crosses,
) depth 20
